-- What keeps the outstanding requests well formed, at a later mark too.
--     formed_empty       no request
--     formed_later       nothing but a later mark
--     formed_added       a new request with a new identifier and the free row
--     formed_removed     a request taken out
--     formed_set         another record of a request
--     formed_walk        the scan of `poll_transmit`
use Rattle.std.specs.Prelude.{None, Some, slice_get}
use Prim.Native.Nat.{ℕ, ◌≤◌}
use mathlib.Core.Path.{◌≡◌, ap}
use mathlib.Core.List.{List, []}
use native.Mathlib.Omega.{arith}
use lib.ListN.{set, length-set}
use Rattle.rows.specs.Lists.{remove_at}
use Rattle.rows.proofs.Lists.{length_insert_at}
use Rattle.message.specs.Head.{key}
use Rattle.waits.specs.declared.Transport.{Transport}
use Rattle.request.specs.Limits.{RequestLimits}
use Rattle.request.specs.Kept.{SameRequest}
use Rattle.request.specs.declared.StunRequestState.{StunRequestState}
use Rattle.requests.specs.Search.{key_of, row_of, lookup, place_of, added, free_row}
use Rattle.requests.specs.Scan.{walk}
use Rattle.requests.specs.Formed.{Formed}
use Rattle.requests.proofs.Lists.{length_removed}
use Rattle.requests.proofs.Search.{none_exactly, keys_set, rows_set, added_ascending, added_within, removed_ascending, removed_different, removed_within, set_within, later_within}
use Rattle.requests.proofs.Free.{free_fewer, free_different}
use Rattle.requests.proofs.Transmits.{walk_keys, walk_rows, walk_length, walk_within}

pub formed_empty : (rows mark : ℕ) → Formed rows mark []
formed_empty rows mark = record { count = omega arith; order = tt; apart = tt; within = tt }

module _ (rows mark later : ℕ) (h : mark ≤ later) (l : List StunRequestState) (f : Formed rows mark l) where
  pub formed_later : Formed rows later l
  formed_later = record { count = f.count; order = f.order; apart = f.apart; within = later_within rows mark later h l f.within }

  pub formed_added : (r : StunRequestState) → lookup (key_of r) l ≡ None → free_row rows l ≡ Some (row_of r) → RequestLimits rows later r
      → Formed rows later (added r l)
  formed_added r n e w =
      let fewer = free_fewer rows l mark f.apart f.within (row_of r) e in
      record {
        count = omega (arith, length_insert_at l (place_of (key_of r) l) r);
        order = added_ascending r l f.order ((none_exactly (key_of r) l).0 n);
        apart = free_different rows r l e f.apart;
        within = added_within rows later r l formed_later.within w;
      }

  pub formed_removed : (i : ℕ) → Formed rows later (remove_at l i)
  formed_removed i = record {
    count = omega (arith, length_removed l i, f.count);
    order = removed_ascending l i f.order;
    apart = removed_different l i f.apart;
    within = removed_within rows later l i formed_later.within;
  }

  pub formed_set : (i : ℕ) (r q : StunRequestState) → slice_get l i ≡ Some r → SameRequest r q → RequestLimits rows later q
      → Formed rows later (set l i q)
  formed_set i r q e same w = record {
    count = rw (length-set l i q) f.count;
    order = rw (keys_set l i r q e (ap key same.id)) f.order;
    apart = rw (rows_set l i r q e same.row) f.apart;
    within = set_within rows later l i q formed_later.within w;
  }

  pub formed_walk : (t : Transport) → Formed rows later (walk t later l).after
  formed_walk t = record {
    count = rw (walk_length t later l) f.count;
    order = rw (walk_keys t later l) f.order;
    apart = rw (walk_rows t later l) f.apart;
    within = walk_within t later rows mark h l f.within;
  }
