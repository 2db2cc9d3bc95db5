-- Whether a row is in use with a length.
--     has_both, has_no_row                   the test of one request
--     use_next, use_here, use_end            the test of a list, request by request
--     own_in_use                             a request's own row and length are in use
--     in_use_exactly                         with different rows: a request's row is in use with a length exactly when the length is its own
--     row_once                               no two requests share a row
--     in_use_placed, not_in_use              what is in use is some request's; a row that none has is not in use with any length
use Rattle.std.specs.Prelude.{Some, slice_get}
use Prim.Native.Nat.{ℕ, zero, suc, ◌+◌}
use mathlib.Core.Path.{◌≡◌, refl, sym, ap, ◌∙◌}
use mathlib.Core.Bool.{Bool, true, false, ◌||◌, and-eq-true_iff}
use mathlib.Core.Logic.{◌↔◌}
use mathlib.Core.List.{List, [], ◌∷◌}
use lib.Dec.{eqb}
use lib.ListN.{drop}
use borrow.Author.Tests.{eq-eqb, ne_eqb, eqb-true}
use Rattle.rows.specs.Lists.{among}
use Rattle.request.specs.declared.StunRequestState.{StunRequestState}
use Rattle.requests.specs.Search.{row_of, rows_of}
use Rattle.requests.specs.Formed.{Different}
use Rattle.requests.proofs.Lists.{apart, neither, is_false, some_same, none_some}
use Rattle.requests.specs.Use.{has, in_use}

module _ (row len : ℕ) where
  pub has_both : (r : StunRequestState) → r.row ≡ row → eqb r.len len ≡ has row len r
  has_both r e = rw (eq-eqb r.row row e)

  pub has_no_row : (r : StunRequestState) → (r.row ≡ row → ⊥) → false ≡ has row len r
  has_no_row r n = rw (ne_eqb r.row row n)

  module _ (l : List StunRequestState) (i : ℕ) (p : in_use row len l ≡ in_use row len (drop i l)) where
    module _ (r : StunRequestState) (e : drop i l ≡ r ∷ drop (i + 1) l) where
      pub use_next : has row len r ≡ false → in_use row len l ≡ in_use row len (drop (i + 1) l)
      use_next f = p ∙ ap (in_use row len) e ∙ ap (λ (b : Bool). b || in_use row len (drop (i + 1) l)) f

      pub use_here : has row len r ≡ true → true ≡ in_use row len l
      use_here f = sym (p ∙ ap (in_use row len) e ∙ ap (λ (b : Bool). b || in_use row len (drop (i + 1) l)) f)

    pub use_end : drop i l ≡ [] → false ≡ in_use row len l
    use_end e = sym (p ∙ ap (in_use row len) e)

has_own : (r : StunRequestState) → has r.row r.len r ≡ true
has_own r = rw (eq-eqb r.row r.row refl) (eq-eqb r.len r.len refl)

either_true : (a b : Bool) → b ≡ true → (a || b) ≡ true
either_true true b e = refl
either_true false b e = e

pub own_in_use : (l : List StunRequestState) (i : ℕ) (r : StunRequestState) → slice_get l i ≡ Some r → in_use r.row r.len l ≡ true
own_in_use [] i r p = none_some p
own_in_use (x ∷ l) zero r p = rw (some_same p, has_own r)
own_in_use (x ∷ l) (suc i) r p = either_true (has r.row r.len x) (in_use r.row r.len l) (own_in_use l i r p)

pub not_in_use : (row len : ℕ) (l : List StunRequestState) → among row (rows_of l) ≡ false → in_use row len l ≡ false
not_in_use row len [] e = refl
not_in_use row len (x ∷ l) e =
    let f = neither (eqb x.row row) (among row (rows_of l)) e in
    rw f.0 (not_in_use row len l f.1)

-- a request that has the row and the length stands somewhere
pub record Placed (row len : ℕ) (l : List StunRequestState) : Type 0 where
  pub place : ℕ
  pub request : StunRequestState
  pub stands : slice_get l place ≡ Some request
  pub is_row : request.row ≡ row
  pub is_length : request.len ≡ len

pub in_use_placed : (row len : ℕ) (l : List StunRequestState) → in_use row len l ≡ true → Placed row len l
in_use_placed row len [] e = apart (sym e)
in_use_placed row len (x ∷ l) e = go (has row len x) refl e (in_use_placed row len l)
  where
    go : (b : Bool) → has row len x ≡ b → (b || in_use row len l) ≡ true → (in_use row len l ≡ true → Placed row len l) → Placed row len (x ∷ l)
    go true h f ih =
        let s = (and-eq-true_iff (eqb x.row row) (eqb x.len len)).0 h in
        record { place = 0; request = x; stands = refl; is_row = eqb-true x.row row s.0; is_length = eqb-true x.len len s.1 }
    go false h f ih =
        let w = ih f in
        record { place = suc w.place; request = w.request; stands = w.stands; is_row = w.is_row; is_length = w.is_length }

-- a row stands where its request does
among_placed : (l : List StunRequestState) (i : ℕ) (r : StunRequestState) → slice_get l i ≡ Some r → among (row_of r) (rows_of l) ≡ true
among_placed [] i r p = none_some p
among_placed (x ∷ l) zero r p = rw (some_same p, eq-eqb r.row r.row refl)
among_placed (x ∷ l) (suc i) r p = either_true (eqb x.row r.row) (among r.row (rows_of l)) (among_placed l i r p)

pub row_once : (l : List StunRequestState) (i j : ℕ) (r q : StunRequestState) → Different (rows_of l) → slice_get l i ≡ Some r → slice_get l j ≡ Some q
    → r.row ≡ q.row → r ≡ q
row_once [] i j r q d e f z = none_some e
row_once (x ∷ l) zero zero r q d e f z = sym (some_same e) ∙ some_same f
row_once (x ∷ l) zero (suc j) r q d e f z =
    absurd (d.0 (ap (λ (n : ℕ). among n (rows_of l)) (ap row_of (some_same e) ∙ z) ∙ among_placed l j q f))
row_once (x ∷ l) (suc i) zero r q d e f z =
    absurd (d.0 (ap (λ (n : ℕ). among n (rows_of l)) (ap row_of (some_same f) ∙ sym z) ∙ among_placed l i r e))
row_once (x ∷ l) (suc i) (suc j) r q d e f z = row_once l i j r q d.1 e f z

-- with different rows the test of the row's request decides
in_use_decides : (len : ℕ) (l : List StunRequestState) (i : ℕ) (r : StunRequestState) → Different (rows_of l) → slice_get l i ≡ Some r → in_use r.row len l ≡ eqb r.len len
in_use_decides len [] i r d p = none_some p
in_use_decides len (x ∷ l) zero r d p =
    let q : x ≡ r = some_same p in
    let f : among r.row (rows_of l) ≡ false = rw q at (is_false (among x.row (rows_of l)) d.0) in
    rw (q, eq-eqb r.row r.row refl, not_in_use r.row len l f) (or_false (eqb r.len len))
  where
    or_false : (b : Bool) → (b || false) ≡ b
    or_false true = refl
    or_false false = refl
in_use_decides len (x ∷ l) (suc i) r d p =
    let n : (x.row ≡ r.row → ⊥) = λ e. d.0 (ap (λ (k : ℕ). among k (rows_of l)) e ∙ among_placed l i r p) in
    rw (ne_eqb x.row r.row n) (in_use_decides len l i r d.1 p)

pub in_use_exactly : (len : ℕ) (l : List StunRequestState) (i : ℕ) (r : StunRequestState) → Different (rows_of l) → slice_get l i ≡ Some r
    → (in_use r.row len l ≡ true) ↔ (r.len ≡ len)
in_use_exactly len l i r d p =
    let e = in_use_decides len l i r d p in
    (λ u. eqb-true r.len len (sym e ∙ u), λ h. e ∙ eq-eqb r.len len h)
