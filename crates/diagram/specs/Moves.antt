-- The two moves on a diagram with labels, as rules: when each may be taken, and what stands afterwards.
use Rattle.std.specs.Prelude.{◌≡◌, ℕ, ◌+◌, Bool, true, cond, not, ◌&&◌, ◌||◌, List, [], ◌∷◌, Some, None, Option, ◌==◌, nat_le, nat_lt}
use Rattle.numbers.specs.Below.{count_below, some_below, first_below}
use Rattle.analysis.specs.Algebra.{Algebra}
use Rattle.diagram.specs.Diagrams.{Diagram}
use Rattle.diagram.specs.Walks.{inner}

-- two rows send each party of their step to the same step
abbrev pub same_goals : Diagram → ℕ → ℕ → Bool
same_goals D i j = not (some_below D.parties (λ p. D.part (D.step i) p && not (D.to i p == D.to j p)))

-- rows i and j may be merged: two rows of one step with equal destinations
abbrev pub may_merge : Diagram → ℕ → ℕ → Bool
may_merge D i j = (D.used i && D.used j) && (not (i == j) && (D.step i == D.step j && same_goals D i j))

-- then row j becomes free
abbrev pub after_merge : Diagram → ℕ → Diagram
after_merge D j =
    record {
      parties = D.parties;
      end = D.end;
      stands = D.stands;
      part = D.part;
      size = D.size;
      used = λ t. D.used t && not (t == j);
      step = D.step;
      to = D.to;
    }

-- and row i has label i either label j
abbrev pub label_after_merge : {V : Type 0} → Algebra V → (ℕ → V) → ℕ → ℕ → ℕ → V
label_after_merge a label i j t = cond (t == i) (a.either (label i) (label j)) (label t)

-- row q is an outcome of step m
abbrev pub outcome_of : Diagram → ℕ → ℕ → Bool
outcome_of D m q = D.used q && D.step q == m

-- how many outcomes step m has
abbrev pub outcomes : Diagram → ℕ → ℕ
outcomes D m = count_below D.size (outcome_of D m)

-- row t is free
abbrev pub free : Diagram → ℕ → Bool
free D t = not (D.used t)

-- step m stands and is neither start nor end
abbrev pub is_target : Diagram → ℕ → Bool
is_target D m = inner D m && not (m == 0)

-- row r unconditionally enables step m: all parties of m are parties of r's step, and r sends each of them to m
abbrev pub enables : Diagram → ℕ → ℕ → Bool
enables D r m = not (some_below D.parties (λ p. D.part m p && not (D.part (D.step r) p && D.to r p == m)))

-- as many rows are free as m has outcomes, less one
abbrev pub has_room : Diagram → ℕ → Bool
has_room D m = nat_le (outcomes D m) (count_below D.size (free D) + 1)

-- the shortcut of row r into step m may be taken
abbrev pub may_shortcut : Diagram → ℕ → ℕ → Bool
may_shortcut D r m = D.used r && (is_target D m && (enables D r m && has_room D m))

-- which of the follow-ups a row takes: row r the first, the free rows the others in ascending order
abbrev pub turn : Diagram → ℕ → ℕ → ℕ
turn D r t = cond (t == r) 0 (1 + count_below t (free D))

-- row t takes a follow-up
abbrev pub takes_follow_up : Diagram → ℕ → ℕ → ℕ → Bool
takes_follow_up D r m t = t == r || ((nat_lt t D.size && free D t) && nat_lt (turn D r t) (outcomes D m))

-- the i-th outcome of step m, from 0, in ascending order of rows
abbrev pub outcome_at : Diagram → ℕ → ℕ → ℕ
outcome_at D m i = first_below D.size (λ q. outcome_of D m q && count_below q (outcome_of D m) == i)

-- the outcome of m that row t follows r up by
abbrev pub followed : Diagram → ℕ → ℕ → ℕ → ℕ
followed D r m t = outcome_at D m (turn D r t)

-- with the follow-ups in place: each belongs to r's step, sends parties of m as its outcome of m does, and others as r did
abbrev pub with_follow_ups : Diagram → ℕ → ℕ → Diagram
with_follow_ups D r m =
    record {
      parties = D.parties;
      end = D.end;
      stands = D.stands;
      part = D.part;
      size = D.size;
      used = λ t. D.used t || takes_follow_up D r m t;
      step = λ t. cond (takes_follow_up D r m t) (D.step r) (D.step t);
      to = λ t p. cond (takes_follow_up D r m t) (cond (D.part m p) (D.to (followed D r m t) p) (D.to r p)) (D.to t p);
    }

-- some row in use leads a party to m
abbrev pub leads_to : Diagram → ℕ → Bool
leads_to D m = some_below D.size (λ t. D.used t && some_below D.parties (λ p. D.part (D.step t) p && D.to t p == m))

-- with step m struck and its rows free
abbrev pub struck : Diagram → ℕ → Diagram
struck D m =
    record {
      parties = D.parties;
      end = D.end;
      stands = λ n. D.stands n && not (n == m);
      part = λ n p. D.part n p && not (n == m);
      size = D.size;
      used = λ t. D.used t && not (D.step t == m);
      step = D.step;
      to = D.to;
    }

-- after a shortcut, m is struck where no row leads to it any more
abbrev pub after_shortcut : Diagram → ℕ → ℕ → Diagram
after_shortcut D r m = cond (leads_to (with_follow_ups D r m) m) (with_follow_ups D r m) (struck (with_follow_ups D r m) m)

-- a follow-up's label is label r, then that of its outcome of m
abbrev pub label_after_shortcut : {V : Type 0} → Algebra V → Diagram → (ℕ → V) → ℕ → ℕ → ℕ → V
label_after_shortcut a D label r m t = cond (takes_follow_up D r m t) (a.then (label r) (label (followed D r m t))) (label t)

-- a move
pub data Move : Type 0 where
  merge : ℕ → ℕ → Move
  shortcut : ℕ → ℕ → Move

-- it may be taken
abbrev pub may_move : Diagram → Move → Bool
may_move D (merge i j) = may_merge D i j
may_move D (shortcut r m) = may_shortcut D r m

-- what stands after a move
abbrev pub after : Diagram → Move → Diagram
after D (merge i j) = after_merge D j
after D (shortcut r m) = after_shortcut D r m

-- and the labels
abbrev pub label_after : {V : Type 0} → Algebra V → Diagram → (ℕ → V) → Move → ℕ → V
label_after a D label (merge i j) = label_after_merge a label i j
label_after a D label (shortcut r m) = label_after_shortcut a D label r m

-- moves taken in turn, each of which passes a test: from a diagram with labels to what stands at last
pub data Moved {V : Type 0} (a : Algebra V) (test : Diagram → Move → Bool) : Diagram → (ℕ → V) → List Move → Diagram → (ℕ → V) → Type 0 where
  rest : {D : Diagram} {label : ℕ → V} → Moved a test D label [] D label
  move : {D : Diagram} {label : ℕ → V} {m : Move} {ms : List Move} {D' : Diagram} {label' : ℕ → V}
      → test D m ≡ true → Moved a test (after D m) (label_after a D label m) ms D' label' → Moved a test D label (m ∷ ms) D' label'

-- the rows behind i that may be merged with it
abbrev pub merges_with : Diagram → ℕ → ℕ → Bool
merges_with D i j = nat_lt i j && may_merge D i j

-- the steps with one outcome into which row r has a shortcut
abbrev pub shortcuts_into : Diagram → ℕ → ℕ → Bool
shortcuts_into D r m = outcomes D m == 1 && may_shortcut D r m

-- a merge, or a shortcut into a step with one outcome, that may be taken
abbrev pub may_reduce : Diagram → Move → Bool
may_reduce D (merge i j) = may_merge D i j
may_reduce D (shortcut r m) = shortcuts_into D r m

-- the least row that has a merge with a later one; the table's size where none has
abbrev pub first_merging : Diagram → ℕ
first_merging D = first_below D.size (λ i. some_below D.size (merges_with D i))

-- the least row that has a shortcut into a step with one outcome; the table's size where none has
abbrev pub first_shortcutting : Diagram → ℕ
first_shortcutting D = first_below D.size (λ r. some_below (D.end + 1) (shortcuts_into D r))

-- the least move: the least merge, else the least shortcut into a step with one outcome; none where nothing is left to take
abbrev pub least_move : Diagram → Option Move
least_move D =
    cond (nat_lt (first_merging D) D.size)
    (Some (merge (first_merging D) (first_below D.size (merges_with D (first_merging D)))))
    (cond (nat_lt (first_shortcutting D) D.size)
    (Some (shortcut (first_shortcutting D) (first_below (D.end + 1) (shortcuts_into D (first_shortcutting D)))))
    None)

-- nothing is left to take
abbrev pub NothingLeft : Diagram → Type 0
NothingLeft D = least_move D ≡ None
