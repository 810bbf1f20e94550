-- Refusals by number, layer and place, and the first check that fails.
use Rattle.std.specs.Prelude.{ℕ, Bool, cond, List, [], ◌∷◌, Some, None, Ok, Err, Option, Result}
use Rattle.format.specs.declared.faults.BlockCause.{BlockCause}
use Rattle.format.specs.declared.faults.BlockCause.TheVariants.{Length, Check as CheckWrong, Header, Blank}
use Rattle.format.specs.declared.faults.RecordCause.{RecordCause}
use Rattle.format.specs.declared.faults.RecordCause.TheVariants.{Kind, Unnamed, Name, Step, Outcome}
use Rattle.format.specs.declared.faults.CallCause.{CallCause}
use Rattle.format.specs.declared.faults.CallCause.TheVariants.{NoRecord}
use Rattle.format.specs.declared.faults.Fault.{Fault}
use Rattle.format.specs.declared.faults.Fault.TheVariants.{Block, Record, Call}

-- what a refusal tells its caller
pub record Refusal : Type 0 where
  pub number : ℕ
  pub layer : ℕ
  pub place : ℕ

-- the number of a fault of the block layer
abbrev pub block_number : BlockCause → ℕ
block_number Length = 1
block_number CheckWrong = 2
block_number Header = 3
block_number Blank = 4

-- the number of a fault of the record layer
abbrev pub record_number : RecordCause → ℕ
record_number Kind = 5
record_number Unnamed = 6
record_number Name = 7
record_number Step = 8
record_number Outcome = 9

-- the number of a fault of a call's own arguments
abbrev pub call_number : CallCause → ℕ
call_number NoRecord = 22

-- the number of a fault
abbrev pub number_of : Fault → ℕ
number_of (Block c p) = block_number c
number_of (Record c p) = record_number c
number_of (Call c) = call_number c

-- the layer that found it: 1 blocks, 2 records, 0 the call itself
abbrev pub layer_of : Fault → ℕ
layer_of (Block c p) = 1
layer_of (Record c p) = 2
layer_of (Call c) = 0

-- the block or record at fault, counted from 0
abbrev pub place_of : Fault → ℕ
place_of (Block c p) = p
place_of (Record c p) = p
place_of (Call c) = 0

-- all three
abbrev pub refusal_of : Fault → Refusal
refusal_of e = record { number = number_of e; layer = layer_of e; place = place_of e }

-- the refusal in a call's answer, if it is one
abbrev pub refusal_in : {X : Type 0} → Result X Fault → Option Refusal
refusal_in (Ok x) = None
refusal_in (Err e) = Some (refusal_of e)

-- a check: what it answers where it fails, and whether it fails
pub record Check : Type 0 where
  pub answers : Refusal
  pub fails : Bool

-- the check that answers that fault
abbrev pub check_of : Fault → Bool → Check
check_of fault fails = record { answers = refusal_of fault; fails = fails }

-- a check of the block layer
abbrev pub block_check : ℕ → ℕ → Bool → Check
block_check n p fails = record { answers = record { number = n; layer = 1; place = p }; fails = fails }

-- a check of the record layer
abbrev pub record_check : ℕ → ℕ → Bool → Check
record_check n p fails = record { answers = record { number = n; layer = 2; place = p }; fails = fails }

-- a check of the call's own arguments
abbrev pub call_check : ℕ → Bool → Check
call_check n fails = record { answers = record { number = n; layer = 0; place = 0 }; fails = fails }

-- the answer of the first check in the list that fails
abbrev pub first_failing : List Check → Option Refusal
first_failing [] = None
first_failing (c ∷ cs) = cond c.fails (Some c.answers) (first_failing cs)
