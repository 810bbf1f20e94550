-- Definitions: which settings reach the end, site by site. The sites are the numbers below 64.
use Rattle.std.specs.Prelude.{ℕ, ◌/◌, Bool, true, false, cond, not, ◌&&◌, ◌||◌}
use Rattle.numbers.specs.Below.{some_below}
use Rattle.format.specs.Layout.{Bytes}
use Rattle.analysis.specs.Algebra.{Algebra}
use Rattle.numbers.specs.Bits.{bit, from_bits}
use Rattle.numbers.proofs.BitLaws.{from_bits_lt}
use Rattle.analysis.specs.LabelBytes.{keep_in, gen_in}
use Rattle.analysis.specs.Parties.{Set}
use Rattle.analysis.specs.declared.definitions.Definitions.{Definitions}

-- the party that owns site b
abbrev pub owner : ℕ → ℕ
owner b = b / 8

-- whether what was defined at site b before survives
abbrev pub kept : Definitions → ℕ → Bool
kept x b = bit x.keep b

-- whether site b is defined
abbrev pub defined : Definitions → ℕ → Bool
defined x b = bit x.gens b

-- the label with site b kept where k b, and defined where d b
abbrev pub sited : (ℕ → Bool) → (ℕ → Bool) → Definitions
sited k d = record { keep = from_bits 64 k; gens = from_bits 64 d; within = (from_bits_lt 64 k, from_bits_lt 64 d) }

-- the label with every site kept, and none defined
abbrev pub all_kept : Definitions
all_kept = sited (λ b. true) (λ b. false)

-- whether site b is not left as it was, though its owner is outside the set
abbrev pub strays : Definitions → Set → ℕ → Bool
strays x P b = not (P (owner b)) && (not (kept x b) || defined x b)

-- whether no site strays
abbrev pub confined : Definitions → Set → Bool
confined x P = not (some_below 64 (strays x P))

-- the label in the label bytes
abbrev pub spelled : Bytes → Definitions
spelled bytes = sited (bit (keep_in bytes)) (bit (gen_in bytes))

-- the operations
abbrev pub definitions_algebra : Algebra Definitions
definitions_algebra =
    record {
      unit = all_kept;
      then = λ x y. sited (λ b. kept x b && kept y b) (λ b. (defined x b && kept y b) || defined y b);
      either = λ x y. sited (λ b. kept x b || kept y b) (λ b. defined x b || defined y b);
      belongs = confined;
      suits = λ bytes P. confined (spelled bytes) P;
      make = λ bytes P. cond (confined (spelled bytes) P) (spelled bytes) all_kept;
      tell = λ x. (x.keep, x.gens);
    }
