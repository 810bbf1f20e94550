-- The masks of listed steps.
use Rattle.std.proofs.Common.{◌≡◌, ℕ, ◌+◌, ◌<◌, ◌≤◌, List, [], ◌∷◌, ◌++◌, map, length, get_or, take, set, arith}
use Rattle.std.proofs.lemmas.List.{length-take-le, length-map, get_or-take, get_or-map, get_or_past, map-set, take_more_set}
use Rattle.analysis.specs.declared.parties.Parties.{Parties}

abbrev mask : Parties → ℕ
mask parties = parties.mask

-- there are as many as the count says
pub length_masks : (count : ℕ) (all : List Parties) → count ≤ length all → length (take count (map mask all)) ≡ count
length_masks count all fits = grind (arith, length-map all mask, length-take-le count (map mask all))

-- below the count stands a step's mask, and 0 from there on
pub mask_below : (count : ℕ) (all : List Parties) → count ≤ length all → (n : ℕ) (d : Parties) → n < count → (get_or all n d).mask ≡ get_or (take count (map mask all)) n 0
mask_below count all fits n d lt = grind (arith, get_or-take count (map mask all) n 0, get_or-map mask all n d 0)

pub mask_beyond : (count : ℕ) (all : List Parties) → count ≤ length all → (n : ℕ) → count ≤ n → get_or (take count (map mask all)) n 0 ≡ 0
mask_beyond count all fits n le = grind (arith, length_masks count all fits, get_or_past (take count (map mask all)) n 0)

-- one step more
pub masks_more : (count : ℕ) (all : List Parties) (parties : Parties) → count < length all → take (count + 1) (map mask (set all count parties)) ≡ take count (map mask all) ++ parties.mask ∷ []
masks_more count all parties lt = grind (arith, length-map all mask, map-set mask all count parties, take_more_set (map mask all) count parties.mask)
