-- The kinds of record by the byte that spells them.
use Rattle.std.specs.Prelude.{◌≡◌, ℕ, ◌<◌, Result, MatchResult}
use Rattle.format.specs.declared.kinds.RecordKind.{RecordKind}
use Rattle.format.specs.declared.kinds.RecordKind.TheVariants.{Blank, Step, Outcome}
use Rattle.format.specs.declared.kinds.UnknownKind.{UnknownKind}

-- the byte of a kind
abbrev pub byte_of : RecordKind → ℕ
byte_of Blank = 0
byte_of Step = 1
byte_of Outcome = 2

-- a byte spells the kind whose byte it is, and none where it is over 2
abbrev pub Spells : ℕ → Result RecordKind UnknownKind → Type 0
Spells byte r = MatchResult r (λ kind. byte ≡ byte_of kind) (λ _. 2 < byte)
