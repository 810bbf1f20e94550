use Rattle.std.proofs.Common.{◌≡◌, Bool, Option, w64, ap, ◌∙◌}
use Rattle.std.specs.Bool.{then_some}
use Rattle.std.specs.Int.{from_be_bytes}
use Rattle.format.specs.Layout.{Bytes}
use Rattle.numbers.specs.Bits.{bit}
use Rattle.analysis.proofs.LabelBytes.{number64_read}
use Rattle.analysis.specs.DefinitionsAlgebra.{confined, spelled}
use Rattle.analysis.specs.DefinitionsLaws.{is_sited}
use Rattle.analysis.specs.LabelBytes.{keep_in, gen_in}
use Rattle.analysis.specs.Parties.{Set, members}
use Rattle.analysis.specs.declared.definitions.Definitions.{Definitions}
use Rattle.analysis.proofs.definitions.Definitions.spelled_for.Goals as goal

if_confined : (bytes : Bytes) (P : Set) (x : Definitions) (b : Bool) (r : Option Definitions) → x.keep ≡ keep_in bytes → x.gens ≡ gen_in bytes → b ≡ confined x P → r ≡ then_some b x → r ≡ then_some (confined (spelled bytes) P) (spelled bytes)
if_confined bytes P x b r keep gens tested made =
    made
    ∙ ap (λ t. then_some t x) tested
    ∙ ap (λ y. then_some (confined y P) y) (is_sited x (bit (keep_in bytes)) (bit (gen_in bytes)) (λ k lt i. (bit (keep i) k, bit (gens i) k)))

pub returns : goal.returns
returns c =
    if_confined c.args.bytes.now (members c.args.parties) _ _ _
    (c.from_be_bytes.ensures ∙ ap (from_be_bytes w64) c.bytes_at.ensures ∙ number64_read c.args.bytes.now 16 c.fits-bytes)
    (c.from_be_bytes-2.ensures ∙ ap (from_be_bytes w64) c.bytes_at-2.ensures ∙ number64_read c.args.bytes.now 24 c.fits-bytes)
    c.confined.ensures
    c.then_some.ensures
