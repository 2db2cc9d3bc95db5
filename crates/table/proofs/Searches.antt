-- A search by `find` over the numbers of the rows, as the list of requests has it: k is the key that is sought.
--     HasKey, IsBelow             how the key of the request in row i stands to k
--     eq_at, ge_at                what `==` and `>=` of its identifier say of that
--     looked_up, placed           from what `find` answered to the request with the key, and to the place of a new one
use Rattle.std.specs.Prelude.{Option, None, Some}
use Rattle.std.specs.Option.{MatchOption, unwrap_or, option_map}
use Rattle.std.specs.Ordering.{partial_ge}
use Prim.Native.Nat.{ℕ, zero, suc, ◌^◌, ◌≤◌, ◌<◌}
use mathlib.Core.Path.{◌≡◌, refl, sym, ap, ◌∙◌}
use mathlib.Core.Bool.{Bool, true, false, not, ◌&&◌}
use mathlib.Core.List.{List}
use native.Mathlib.Numerals.{add-one}
use native.Mathlib.Omega.{arith}
use lib.Dec.{eqb, ltb}
use lib.ListN.{get_or, drop}
use Rattle.message.specs.Head.{key}
use Rattle.message.specs.declared.TransactionId.{TransactionId}
use Rattle.message.specs.contracts.TransactionIdPartialOrd.TheImpl.{partial_cmp-value}
use Rattle.message.proofs.Identifiers.{eq_by_key, ge_by_key}
use Rattle.rows.specs.Rows.{row}
use Rattle.records.specs.Coding.{width, decode}
use Rattle.records.specs.Live.{live}
use Rattle.records.proofs.Coding.{low_fits}
use Rattle.records.proofs.Live.{live_next, live_end}
use Rattle.requests.specs.Search.{lookup, lookup_from, place_of, place_from}

-- what `find` over the numbers below n answered: the first with Yes, and No before it
abbrev pub IsFirstBelow : (ℕ → Type 0) → (ℕ → Type 0) → ℕ → Option ℕ → Type 0
IsFirstBelow Yes No n r = MatchOption r ((k : ℕ) → 0 ≤ k → k < n → No k) (λ i. (0 ≤ i) × (i < n) × Yes i × ((k : ℕ) → 0 ≤ k → k < i → No k))

module _ (t : List ℕ) where
  abbrev id_of : ℕ → TransactionId
  id_of i = (decode (row width t i)).transaction_id

  abbrev pub HasKey : ℕ → Bool → ℕ → Type 0
  HasKey k b i = eqb (key (id_of i)) k ≡ b

  abbrev pub IsBelow : ℕ → Bool → ℕ → Type 0
  IsBelow k b i = ltb (key (id_of i)) k ≡ b

  -- the words fit, and so does an identifier that was read
  module _ (fits : (j : ℕ) → get_or t j 0 < 2 ^ 64) (b : TransactionId) (low : b.lo < 2 ^ 64) (i : ℕ) where
    pub eq_at : (r : Bool) → r ≡ (eqb (id_of i).hi b.hi && eqb (id_of i).lo b.lo) → HasKey (key b) r i
    eq_at r e = eq_by_key (id_of i) b (low_fits t fits i) low ∙ sym e

    pub ge_at : (r : Bool) → r ≡ partial_ge partial_cmp-value.it (id_of i) b → IsBelow (key b) (not r) i
    ge_at r e = ge_by_key (id_of i) b (low_fits t fits i) low ∙ ap not (sym e)

  module _ (n k : ℕ) where
    lookup_up : (i : ℕ) → i ≤ n → ((j : ℕ) → 0 ≤ j → j < i → HasKey k false j) → lookup k (live n t) ≡ lookup_from i k (drop i (live n t))
    lookup_up zero h past = refl
    lookup_up (suc i) h past =
        lookup_up i (omega arith) (λ j z b. past j z (omega arith)) ∙ rw (live_next n i t (omega arith), past i (omega arith) (omega arith), add-one i)

    pub looked_up : (r : Option ℕ) → IsFirstBelow (HasKey k true) (HasKey k false) n r → option_map (λ i. (i, decode (row width t i))) r ≡ lookup k (live n t)
    looked_up None past = sym (lookup_up n (omega arith) past ∙ rw (live_end n n t (omega arith)))
    looked_up (Some i) f = sym (lookup_up i (omega arith) f.3 ∙ rw (live_next n i t f.1, f.2))

    place_up : (i : ℕ) → i ≤ n → ((j : ℕ) → 0 ≤ j → j < i → IsBelow k true j) → place_of k (live n t) ≡ place_from i k (drop i (live n t))
    place_up zero h past = refl
    place_up (suc i) h past =
        place_up i (omega arith) (λ j z b. past j z (omega arith)) ∙ rw (live_next n i t (omega arith), past i (omega arith) (omega arith), add-one i)

    pub placed : (r : Option ℕ) → IsFirstBelow (IsBelow k false) (IsBelow k true) n r → unwrap_or r n ≡ place_of k (live n t)
    placed None past = sym (place_up n (omega arith) past ∙ rw (live_end n n t (omega arith)))
    placed (Some i) f = sym (place_up i (omega arith) f.3 ∙ rw (live_next n i t f.1, f.2))
