-- The labels on a shelf, for the calls that are yet to come.
use Rattle.std.specs.Prelude.{◌≡◌, ℕ, ◌<◌, List, length, Option, MatchOption, slice_index_or}

-- Some places of a shelf are written: each of these then holds a label of the value given, and every other keeps its label.
pub record Written {K V : Type 0} (value : K → V) (writes : ℕ → Option V) (before after : List K) : Type 0 where
  pub same_room : length after ≡ length before
  pub each_place : (r : ℕ) (d : K) → r < length before → MatchOption (writes r) (slice_index_or after r d ≡ slice_index_or before r d) (λ v. value (slice_index_or after r d) ≡ v)
