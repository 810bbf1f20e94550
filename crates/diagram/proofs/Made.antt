-- Labels belong to the sets that they are made for.
use Rattle.std.proofs.Common.{ap, ◌∙◌, ⊎_elim}
use Rattle.std.proofs.lemmas.Bool.{cases_Bool}
use Rattle.analysis.specs.Algebra.{Algebra, Laws}
use Rattle.diagram.specs.Meaning.{MadeLabelsBelong}

pub made_labels_belong : {V : Type 0} (a : Algebra V) → Laws a → MadeLabelsBelong a
made_labels_belong a laws bytes P =
    ⊎_elim
    (λ suits. laws.suiting_belongs bytes P suits)
    (λ not_so. ap (λ v. a.belongs v P) (laws.unsuiting_unit bytes P not_so) ∙ laws.unit_belongs P)
    (cases_Bool (a.suits bytes P))
