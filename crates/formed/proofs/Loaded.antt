-- The requests that words hold, as a loop reads them.
--     loaded_down                  the request that was read, and those behind it
--     any_loaded                   the requests tested one by one
--     flagged_none                 the flags before the first request
--     mark_taken, mark_nothing     the flags with one request more
--     free_flag                    the first flag that isn't set is the lowest free row
use Prim.Native.Nat.{ℕ, zero, suc, ◌+◌, ◌-◌, ◌≤◌, ◌<◌}
use mathlib.Core.Path.{◌≡◌, sym, ap, ◌∙◌}
use mathlib.Core.Bool.{Bool, true, false}
use mathlib.Core.List.{List, [], ◌∷◌}
use native.Mathlib.Omega.{arith}
use lib.ListN.{set, drop, replicate}
use Rattle.rows.specs.Rows.{row}
use Rattle.request.specs.declared.StunRequestState.{StunRequestState}
use Rattle.requests.specs.Search.{rows_of, free_row}
use Rattle.records.specs.Coding.{width, decode}
use Rattle.records.specs.Live.{live}
use Rattle.records.proofs.Live.{live_next, live_end}
use Rattle.requests.specs.Use.{has, in_use}
use Rattle.std.specs.List.{list_any, range_with_len}
use Rattle.formed.specs.Flags.{flags, lowest_from}
use Rattle.formed.proofs.Flags.{flags_none, flags_mark, flags_outside, lowest_flag}

pub loaded_down : (n i : ℕ) (t : List ℕ) (r : StunRequestState) → r ≡ decode (row width t (i - 1)) → 0 < i → i ≤ n → drop (i - 1) (live n t) ≡ r ∷ drop i (live n t)
loaded_down n i t r e h k =
    let b : i - 1 + 1 ≡ i = omega arith in
    live_next n (i - 1) t (omega arith)
    ∙ ap (λ (q : StunRequestState). q ∷ drop (i - 1 + 1) (live n t)) (sym e)
    ∙ ap (λ (j : ℕ). r ∷ drop j (live n t)) b

-- a test of the requests, place by place
pub any_loaded : (k len n i m : ℕ) (t : List ℕ) → i + m ≡ n → list_any (λ j. has k len (decode (row width t j))) (range_with_len i m) ≡ in_use k len (drop i (live n t))
any_loaded k len n i zero t e = rw (live_end n i t (omega arith))
any_loaded k len n i (suc m) t e = rw (live_next n i t (omega arith), any_loaded k len n (i + 1) m t (omega arith))

pub flagged_none : (n : ℕ) (rs : List StunRequestState) → rs ≡ [] → replicate n false ≡ flags n (rows_of rs)
flagged_none n rs e = flags_none n ∙ ap (λ (l : List StunRequestState). flags n (rows_of l)) (sym e)

module _ (n : ℕ) (taken : List Bool) (rs rs' : List StunRequestState) (r : StunRequestState) (p : taken ≡ flags n (rows_of rs)) (e : rs' ≡ r ∷ rs) where
  pub mark_taken : r.row < n → set taken r.row true ≡ flags n (rows_of rs')
  mark_taken h =
      ap (λ (l : List Bool). set l r.row true) p
      ∙ flags_mark n r.row (rows_of rs) h
      ∙ ap (λ (l : List StunRequestState). flags n (rows_of l)) (sym e)

  pub mark_nothing : n ≤ r.row → taken ≡ flags n (rows_of rs')
  mark_nothing h = p ∙ flags_outside n r.row (rows_of rs) h ∙ ap (λ (l : List StunRequestState). flags n (rows_of l)) (sym e)

module _ (n : ℕ) (taken : List Bool) (l : List StunRequestState) (i : ℕ) (p : taken ≡ flags n (rows_of (drop i l))) where
  pub free_flag : i ≤ 0 → lowest_from 0 taken ≡ free_row n l
  free_flag h =
      let z : i ≡ 0 = omega arith in
      ap (lowest_from 0) p ∙ lowest_flag n (rows_of (drop i l)) ∙ ap (λ (j : ℕ). free_row n (drop j l)) z
