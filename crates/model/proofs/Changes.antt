-- What a call that isn't refused does to the requests, the clock mark and the peers of a well-formed world.
--     Fits, change_fits           the change of such a call fits the requests: a new one has a new identifier, a free row, ..
--     mark_later, mark_most       the mark never falls, nor passes 2^60
--     peer_fits                   a new peer has a place
--     changed_formed, changed_count    a change that fits keeps the requests well formed, and their number
use Rattle.model.specs.declared.Refusal.{Refusal}
use Rattle.model.specs.declared.Refusal.TheVariants.{Settings, Clock, TooLong, InProgress, PeersFull}
use Rattle.std.specs.Prelude.{None, Some, Option, slice_get, is_some}
use Prim.Native.Nat.{ℕ, ◌+◌, ◌^◌, ◌≤◌, ◌<◌}
use mathlib.Core.Path.{◌≡◌, refl, sym, ap, ◌∙◌}
use mathlib.Core.Bool.{Bool, true, false, cond, not, ◌||◌}
use mathlib.Core.List.{List}
use native.Mathlib.Omega.{arith}
use Rattle.std.proofs.lemmas.Grind.{common_steps}
use lib.Dec.{ltb}
use lib.ListN.{length, length-set}
use borrow.Author.Tests.{ltb-false, not-false}
use Rattle.rows.proofs.Lists.{length_insert_at, length_remove_at}
use Rattle.address.specs.declared.Address.{Address}
use Rattle.message.specs.Head.{key}
use Rattle.message.specs.Attributes.{message_of}
use Rattle.message.specs.declared.TransactionId.{TransactionId}
use Rattle.message.specs.declared.Message.{Message}
use Rattle.message.proofs.Messages.{good_length}
use Rattle.waits.specs.Waits as waits
use Rattle.waits.specs.declared.Transport.{Transport}
use Rattle.waits.proofs.Limits as waits-limits
use Rattle.request.specs.Request.{submitted}
use Rattle.request.specs.Kept.{SameRequest}
use Rattle.request.specs.Limits.{RequestLimits}
use Rattle.request.specs.declared.StunRequestState.{StunRequestState}
use Rattle.request.proofs.Kept.{submission, same_silenced, same_cancelled, same_configured}
use Rattle.request.proofs.Limits.{submitted_limits, silenced_limits, cancelled_limits, configured_limits}
use Rattle.requests.specs.Search.{key_of, row_of, lookup, place_of, free_row}
use Rattle.requests.specs.Scan.{hour, poll_all}
use Rattle.requests.specs.Formed.{Formed}
use Rattle.requests.specs.declared.Polled.{Polled}
use Rattle.requests.specs.declared.Polled.TheVariants.{TimedOut, Cancelled, WaitUntil}
use Rattle.requests.proofs.Search.{found_at, placed_within}
use Rattle.requests.proofs.Free.{free_row_lem}
use Rattle.requests.proofs.Transmits.{walk_length}
use Rattle.requests.proofs.Polls.{Says, poll_says}
use Rattle.requests.proofs.Kept.{formed_later, formed_added, formed_removed, formed_set, formed_walk}
use Rattle.model.specs.World.{World, StateFormed}
use Rattle.model.specs.Calls.{submits, sends, receives, transmits, reports, Wish, silence, cancel, configure, query, Kind, carries, scans, names, meets, counts, clock_of, wish_settings, on_some}
use Rattle.model.specs.Accepts.{is_outstanding, is_response, accepts, new_peer}
use Rattle.model.specs.Refusals.{holds}
use Rattle.model.specs.Effects.{on_found, Change, keeps, adds, removes, sets, steps, changed, count_after, new_request, taken, answered, reported, wished, change_of, mark_after}

-- ---- what a change has to be

-- A new request: its identifier isn't outstanding, it has the lowest free row and the message's length, and is within its limits.
pub record Joins (rows later : ℕ) (l : List StunRequestState) (m : List ℕ) (r : StunRequestState) : Type 0 where
  pub new : lookup (key_of r) l ≡ None
  pub free : free_row rows l ≡ Some (row_of r)
  pub within : RequestLimits rows later r
  pub len_is : r.len ≡ length m

-- Another record of the request at a place.
pub record Replaces (rows later : ℕ) (l : List StunRequestState) (i : ℕ) (q : StunRequestState) : Type 0 where
  pub request : StunRequestState
  pub placed : slice_get l i ≡ Some request
  pub same : SameRequest request q
  pub within : RequestLimits rows later q

abbrev pub Fits : ℕ → ℕ → List StunRequestState → List ℕ → Change → Type 0
Fits rows later l m keeps = Unit
Fits rows later l m (adds r) = Joins rows later l m r
Fits rows later l m (removes i) = i < length l
Fits rows later l m (sets i q) = Replaces rows later l i q
Fits rows later l m (steps now) = now ≡ later

-- ---- the clock

module _ (mark : ℕ) where
  clock_later : (o : Option ℕ) → on_some o false (λ now. ltb (2 ^ 60) now || ltb now mark) ≡ false → mark ≤ on_some o mark (λ now. now)
  clock_later o e = grind (arith, common_steps)

  clock_most : (o : Option ℕ) → on_some o false (λ now. ltb (2 ^ 60) now || ltb now mark) ≡ false → mark ≤ 2 ^ 60
      → on_some o mark (λ now. now) ≤ 2 ^ 60
  clock_most o e h = grind (arith, common_steps)

-- ---- a call that isn't refused

not_found : (f : Option (ℕ × StunRequestState)) → is_some f ≡ false → f ≡ None
not_found f e = grind arith

module _ (rows : ℕ) (w : World) (k : Kind) (m : List ℕ) (passes : (r : Refusal) → holds rows w k m r ≡ false) where
  pub mark_later : w.agent.mark ≤ mark_after w k
  mark_later = clock_later w.agent.mark (clock_of k) (passes Clock)

  pub mark_most : w.agent.mark ≤ 2 ^ 60 → mark_after w k ≤ 2 ^ 60
  mark_most h = clock_most w.agent.mark (clock_of k) (passes Clock) h

  -- A new peer has a place.
  pub peer_fits : (a : Address) → new_peer w k m ≡ Some a → w.agent.peers < length w.peers
  peer_fits a e = let full = passes PeersFull in grind (arith, common_steps)

module _ (rows : ℕ) (w : World) (m : List ℕ) (formed : StateFormed rows w) where
  -- `send_request`
  submit_fits : (to : Address) (now : ℕ) → ((r : Refusal) → holds rows w (carries (submits to now)) m r ≡ false)
      → Fits rows now w.requests m (on_some (new_request rows w to now m) keeps adds)
  unfolding new_request
  submit_fits to now passes = go (message_of m) refl (passes InProgress)
    where
      joins : (x : Message) (row : ℕ) → message_of m ≡ Some x → is_outstanding w.requests x.transaction_id ≡ false
          → free_row rows w.requests ≡ Some row
          → Joins rows now w.requests m (submitted now x.transaction_id x.integrity row (length m) to w.agent.rto)
      joins x row e n f =
          let s = submission now x.transaction_id x.integrity row (length m) to w.agent.rto in
          record {
            new = ap (λ (id : TransactionId). lookup (key id) w.requests) s.id_is ∙ not_found (lookup (key x.transaction_id) w.requests) n;
            free = f ∙ ap Some (sym s.row_is);
            within =
                submitted_limits rows x.transaction_id x.integrity row (length m) to w.agent.rto
                (record {
                  least = good_length m x e;
                  most = ltb-false 1024 (length m) (passes TooLong);
                  is_row = (free_row_lem rows w.requests row f).below;
                  settings = formed.settings;
                })
                now;
            len_is = s.len_is;
          }

      with_row : (x : Message) → message_of m ≡ Some x → is_outstanding w.requests x.transaction_id ≡ false
          → (f : Option ℕ) → free_row rows w.requests ≡ f
          → Fits rows now w.requests m (on_some (on_some f None (λ row. Some (submitted now x.transaction_id x.integrity row (length m) to w.agent.rto))) keeps adds)
      with_row x e n (Some row) f = joins x row e n f
      with_row x e n None f = tt

      go : (p : Option Message) → message_of m ≡ p → on_some p false (λ x. is_outstanding w.requests x.transaction_id) ≡ false
          → Fits rows now w.requests m (on_some (on_some p None (λ x. on_some (free_row rows w.requests) None (λ row. Some (submitted now x.transaction_id x.integrity row (length m) to w.agent.rto)))) keeps adds)
      go (Some x) e n = with_row x e n (free_row rows w.requests) refl
      go None e n = tt

  -- a received message
  taken_fits : (later id : ℕ) (f : Option (ℕ × StunRequestState)) → lookup id w.requests ≡ f → Fits rows later w.requests m (taken f)
  taken_fits later id (Some (i, r)) e = (found_at id i r w.requests e).below
  taken_fits later id None e = tt

  answer_fits : (later : ℕ) (from : Address) (x : Message) → Fits rows later w.requests m (answered w.requests from x)
  answer_fits later from x = go (accepts w.requests from x) (is_response x.class)
    where
      go : (a b : Bool) → Fits rows later w.requests m (cond a (cond b (taken (lookup (key x.transaction_id) w.requests)) keeps) keeps)
      go true true = taken_fits later (key x.transaction_id) (lookup (key x.transaction_id) w.requests) refl
      go true false = tt
      go false b = tt

  receive_fits : (later : ℕ) (from : Address) (p : Option Message) → Fits rows later w.requests m (on_some p keeps (answered w.requests from))
  receive_fits later from (Some x) = answer_fits later from x
  receive_fits later from None = tt

  -- `poll`
  report_fits : (later : ℕ) (t : Transport) (now : ℕ) (o : Polled) → Says t now (now + hour) w.requests o → Fits rows later w.requests m (reported o)
  report_fits later t now (TimedOut i id) s = s.below
  report_fits later t now (Cancelled i id) s = s.below
  report_fits later t now (WaitUntil clock) s = tt

  -- a call with an identifier
  wish_fits : (wish : Wish) → on_some (wish_settings wish) false (λ rto. not (waits.within_limits rto)) ≡ false → (id : ℕ) (f : Option (ℕ × StunRequestState))
      → lookup id w.requests ≡ f → Fits rows w.agent.mark w.requests m (on_found f keeps (wished wish))
  wish_fits wish s id None e = tt
  wish_fits wish s id (Some (i, r)) e = go wish s
    where
      placed : slice_get w.requests i ≡ Some r
      placed = (found_at id i r w.requests e).placed

      limits : RequestLimits rows w.agent.mark r
      limits = placed_within rows w.agent.mark w.requests i r formed.requests.within placed

      go : (wish : Wish) → on_some (wish_settings wish) false (λ rto. not (waits.within_limits rto)) ≡ false
          → Fits rows w.agent.mark w.requests m (wished wish i r)
      go silence s =
          record { request = r; placed = placed; same = same_silenced r; within = silenced_limits rows w.agent.mark r limits }
      go cancel s =
          record { request = r; placed = placed; same = same_cancelled r; within = cancelled_limits rows w.agent.mark r limits }
      go (configure rto) s = record {
        request = r;
        placed = placed;
        same = same_configured r rto;
        within = configured_limits rows w.agent.mark r limits rto ((waits-limits.within_limits_lem rto).0 (not-false (waits.within_limits rto) s));
      }
      go query s = tt

  pub change_fits : (k : Kind) → ((r : Refusal) → holds rows w k m r ≡ false) → Fits rows (mark_after w k) w.requests m (change_of rows w k m)
  unfolding change_of
  change_fits (carries (submits to now)) passes = submit_fits to now passes
  change_fits (carries (sends to)) passes = tt
  change_fits (carries (receives from clock)) passes = receive_fits (mark_after w (carries (receives from clock))) from (message_of m)
  change_fits (scans transmits now) passes = refl
  change_fits (scans reports now) passes =
      report_fits now w.agent.transport now (poll_all w.agent.transport now w.requests) (poll_says w.agent.transport now w.requests)
  change_fits (names id wish) passes = wish_fits wish (passes Settings) (key id) (lookup (key id) w.requests) refl
  change_fits (meets a x) passes = tt
  change_fits (counts f) passes = tt

-- ---- what such a change keeps

module _ (rows mark later : ℕ) (h : mark ≤ later) (l : List StunRequestState) (m : List ℕ) (t : Transport) where
  pub changed_formed : (c : Change) → Formed rows mark l → Fits rows later l m c → Formed rows later (changed t c l)
  changed_formed keeps f x = formed_later rows mark later h l f
  changed_formed (adds r) f x = formed_added rows mark later h l f r x.new x.free x.within
  changed_formed (removes i) f x = formed_removed rows mark later h l f i
  changed_formed (sets i q) f x = formed_set rows mark later h l f i x.request q x.placed x.same x.within
  changed_formed (steps now) f x = rw x (formed_walk rows mark later h l f t)

  pub changed_count : (c : Change) → Fits rows later l m c → count_after c (length l) ≡ length (changed t c l)
  changed_count keeps x = refl
  changed_count (adds r) x = omega (arith, length_insert_at l (place_of (key_of r) l) r)
  changed_count (removes i) x = omega (arith, length_remove_at l i x)
  changed_count (sets i q) x = sym (length-set l i q)
  changed_count (steps now) x = sym (walk_length t now l)
