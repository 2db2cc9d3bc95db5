-- A law for each kind of arm of `dispatch`: what a call's function answers behind the test of the state is what the model says of the
-- call; and the law of refusal 1.
use Rattle.model.specs.declared.Refusal.{Refusal}
use Rattle.model.specs.declared.Refusal.TheVariants.{State}
use Rattle.std.specs.Prelude.{None, Some, Option}
use Rattle.request.specs.declared.StunRequestState.{StunRequestState}
use Prim.Native.Nat.{ℕ}
use mathlib.Core.Path.{◌≡◌, refl, sym, ap, ◌∙◌, subst}
use mathlib.Core.Bool.{Bool, true, false, cond, ◌&&◌, and-eq-true_iff}
use mathlib.Core.List.{List}
use lib.Dec.{leb}
use lib.ListN.{length}
use Rattle.address.specs.declared.Address.{Address}
use Rattle.message.specs.Head.{key}
use Rattle.message.specs.declared.TransactionId.{TransactionId}
use Rattle.waits.specs.declared.Transport.{Transport}
use Rattle.rows.specs.Rows.{with_rows}
use Rattle.stats.specs.declared.StunAgentStats.{StunAgentStats}
use Rattle.requests.specs.Search.{lookup}
use Rattle.records.specs.Coding.{width, size}
use Rattle.records.specs.Live.{live}
use Rattle.model.specs.World.{World, state_formed, known}
use Rattle.model.specs.Calls.{Kind, carries, names, meets, counts, submits, sends, receives, query, Meeting, Figure, kind_of, passage_of, address_of, on_some}
use Rattle.model.specs.Accepts.{new_peer}
use Rattle.model.specs.Refusals.{is_submitted, refusal_of, refusal_past}
use Rattle.model.specs.Effects.{Change, keeps, on_found, wished, change_of, answer_of, stored_by, after}
use Rattle.model.specs.Says.{Said, decided}
use Rattle.model.specs.declared.StunAgent.{StunAgent}
use Rattle.model.specs.declared.Call.{Call}
use Rattle.model.proofs.Refused.{bad_state_first, past_state_lem}
use Rattle.model.proofs.Classes.{leaves, agent_after_lem, change_sends, change_names, change_meets, change_counts}
use Rattle.model.proofs.Store.{stored_other}
use Rattle.agent.specs.Ready.{world_of, ready}
use Rattle.agent.specs.Called as called-specs
use Rattle.agent.specs.Called.{refused_with, tried, effect, called, rows_after, TableAfter, unless, change_past, Acts, Turning, Counting, Carrying, Looking, Receiving, Submitting}
use Rattle.agent.specs.Said.{refusal_in, said_in, unless_refused, words_in, Does, nowhere, Dispatched}
use Rattle.agent.specs.declared.Called.{Called}
use Rattle.agent.proofs.Ready.{state_ready}
use Rattle.agent.proofs.Table.{kept_same, table_by}

-- ---- by the refusal

words_by_lem : (n : Option Refusal) (c : Change) (tr : Transport) (k : ℕ) (t t' : List ℕ) → TableAfter tr (unless n c) k t t'
    → t' ≡ unless_refused n t (with_rows width t (rows_after tr c k t))
words_by_lem None c tr k t t' x = x.words
words_by_lem (Some q) c tr k t t' x = x.words ∙ sym (kept_same tr k t).words

unless_keeps : (n : Option Refusal) (c : Change) → c ≡ keeps → unless n c ≡ keeps
unless_keeps None c e = e
unless_keeps (Some q) c e = refl

unless_stores : (n : Option Refusal) (c : Change) (store m : List ℕ) → stored_by 32 store m c ≡ store → store ≡ stored_by 32 store m (unless n c)
unless_stores None c store m e = sym e
unless_stores (Some q) c store m e = refl

query_keeps : (f : Option (ℕ × StunRequestState)) → on_found f keeps (wished query) ≡ keeps
query_keeps (Some (i, r)) = refl
query_keeps None = refl

bad_state_lem : (b s : Bool) (n : Option Refusal) → (b && s) ≡ false → (s ≡ false → n ≡ Some State) → cond b n (Some State) ≡ Some State
bad_state_lem true s n e f = f e
bad_state_lem false s n e f = refl

module _ (a : StunAgent) (t store : List ℕ) (peers : List Address) (st : StunAgentStats) (k : Kind) (m : List ℕ) where
  abbrev w : World
  w = world_of a t store peers st

  abbrev done : Said
  done = record { answer = answer_of 32 w k m; world = after 32 w k m }

  holds_by : (n : Option Refusal) (t' : List ℕ) → TableAfter a.transport (unless n (change_of 32 w k m)) a.requests t t'
      → live (tried n a (effect 32 w k m)).agent.requests t' ≡ (decided n w done).world.requests
  holds_by None t' x =
      ap (λ (y : StunAgent). live y.requests t') (agent_after_lem 32 w k m (change_of 32 w k m) (new_peer w k m) refl refl)
      ∙ (x.holds ∙ sym (leaves 32 w k m).requests)
  holds_by (Some q) t' x = x.holds

  stores_by : (n : Option Refusal) → (decided n w done).world.store ≡ stored_by 32 store m (unless n (change_of 32 w k m))
  stores_by None = (leaves 32 w k m).store
  stores_by (Some q) = refl

  refused_does : (q : Refusal) (r : Called) → refusal_in t w k m ≡ Some q → r ≡ refused_with a q → Does w k m t t store r
  unfolding said_in words_in
  refused_does n r e f = record {
    says = f ∙ ap (λ (i : Option Refusal). tried i a (effect 32 w k m)) (sym e);
    words = ap (λ (i : Option Refusal). unless_refused i t (with_rows width t (rows_after a.transport (change_of 32 w k m) a.requests t))) (sym e);
    holds = ap (λ (x : Called). live x.agent.requests t) f ∙ ap (λ (i : Option Refusal). (decided i w done).world.requests) (sym e);
    stores = ap (λ (i : Option Refusal). (decided i w done).world.store) (sym e);
  }

-- ---- refusal 1

module _ (a : StunAgent) (places : ℕ) (t store : List ℕ) (isKnown : Bool) (st : StunAgentStats) (m : List ℕ) (r : Called) (c : Call) where
  pub unready_arm : ready a places t store ≡ false → r ≡ refused_with a State → Dispatched a c isKnown places st m t store t store r
  unfolding refusal_in
  unready_arm e f = λ peers fits is.
      let here = world_of a t store peers st in
      let no = sym (state_ready a places t store peers st fits) ∙ e in
      refused_does a t store peers st (kind_of c) m State r
      (bad_state_lem (leb size (length t)) (state_formed 32 here) (refusal_of 32 here (kind_of c) m) no (bad_state_first 32 here (kind_of c) m)) f

-- ---- in a state that is ready

module _ (a : StunAgent) (places : ℕ) (t store : List ℕ) (isKnown : Bool) (st : StunAgentStats) (m : List ℕ) (r : Called) (c : Call) (ok : ready a places t store ≡ true) where
  module _ (k : Kind) (peers : List Address) (fits : length peers ≡ places) where
    abbrev here : World
    here = world_of a t store peers st

    good : (leb size (length t) ≡ true) × (state_formed 32 here ≡ true)
    good = (and-eq-true_iff (leb size (length t)) (state_formed 32 here)).0 (sym (state_ready a places t store peers st fits) ∙ ok)

    number_past : refusal_in t here k m ≡ refusal_past 32 here k m
    unfolding refusal_in
    number_past = ap (λ (b : Bool). cond b (refusal_of 32 here k m) (Some State)) good.0 ∙ past_state_lem 32 here k m good.1

    change_past_lem : unless (refusal_in t here k m) (change_of 32 here k m) ≡ change_past 32 here k m
    unfolding change_past
    change_past_lem = ap (λ (n : Option Refusal). unless n (change_of 32 here k m)) number_past

    does : (t' store' : List ℕ) → Acts here k m t t' r → store' ≡ stored_by 32 store m (change_past 32 here k m) → Does here k m t t' store' r
    unfolding called said_in words_in
    does t' store' x e =
        let says = x.says ∙ ap (λ (n : Option Refusal). tried n a (effect 32 here k m)) (sym number_past) in
        let then = table_by a.transport a.requests t t' _ (change_past 32 here k m) change_past_lem x.then in
        record {
          says = says;
          words = words_by_lem (refusal_in t here k m) (change_of 32 here k m) a.transport a.requests t t' then;
          holds = ap (λ (y : Called). live y.agent.requests t') says ∙ holds_by a t store peers st k m (refusal_in t here k m) t' then;
          stores = e ∙ ap (stored_by 32 store m) (sym change_past_lem) ∙ sym (stores_by a t store peers st k m (refusal_in t here k m));
        }

    store_past : on_some (passage_of k) false is_submitted ≡ false → store ≡ stored_by 32 store m (change_past 32 here k m)
    unfolding change_past
    store_past e = unless_stores (refusal_past 32 here k m) (change_of 32 here k m) store m (stored_other 32 here m k e)

    still : change_of 32 here k m ≡ keeps → on_some (passage_of k) false is_submitted ≡ false → r ≡ called 32 here k m → Does here k m t t store r
    unfolding change_past
    still e f x =
        does t store (record {
          says = x;
          then =
              table_by a.transport a.requests t t _ keeps (unless_keeps (refusal_past 32 here k m) (change_of 32 here k m) e)
              (kept_same a.transport a.requests t);
        }) (store_past f)

  -- the promise of a call is that of its class
  abbrev DispatchedAs : List ℕ → List ℕ → Kind → Type 0
  DispatchedAs t' store' k =
      (peers : List Address) → length peers ≡ places → known (world_of a t store peers st) (on_some (address_of k) nowhere (λ x. x)) ≡ isKnown
      → Does (world_of a t store peers st) k m t t' store' r

  by_kind : (k : Kind) (t' store' : List ℕ) → kind_of c ≡ k → DispatchedAs t' store' k → Dispatched a c isKnown places st m t store t' store' r
  by_kind k t' store' e x = subst (DispatchedAs t' store') (sym e) x

  pub counting_arm : (f : Figure) → kind_of c ≡ counts f → Counting a st (counts f) r → Dispatched a c isKnown places st m t store t store r
  counting_arm f e x =
      by_kind (counts f) t store e (λ peers fits is.
      still (counts f) peers fits (change_counts 32 _ m f) refl (x (live a.requests t) store m peers))

  pub meeting_arm : (addr : Address) (y : Meeting) → kind_of c ≡ meets addr y → called-specs.Meeting a addr isKnown places (meets addr y) r
      → Dispatched a c isKnown places st m t store t store r
  meeting_arm addr y e x =
      by_kind (meets addr y) t store e (λ peers fits is.
      still (meets addr y) peers fits (change_meets 32 _ m addr y) refl (x (live a.requests t) store m peers st fits is))

  pub carrying_arm : (to : Address) → kind_of c ≡ carries (sends to) → Carrying a (carries (sends to)) m r → Dispatched a c isKnown places st m t store t store r
  carrying_arm to e x =
      by_kind (carries (sends to)) t store e (λ peers fits is.
      still (carries (sends to)) peers fits (change_sends 32 _ m to) refl (x (live a.requests t) store peers st))

  pub looking_arm : (id : TransactionId) → kind_of c ≡ names id query → Looking a t (names id query) r → Dispatched a c isKnown places st m t store t store r
  looking_arm id e x =
      by_kind (names id query) t store e (λ peers fits is.
      let quiet = change_names 32 _ m id query ∙ query_keeps (lookup (key id) (live a.requests t)) in
      still (names id query) peers fits quiet refl (x store m peers st))

  pub turning_arm : (k : Kind) (t' : List ℕ) → kind_of c ≡ k → on_some (passage_of k) false is_submitted ≡ false → Turning a k t t' r
      → Dispatched a c isKnown places st m t store t' store r
  turning_arm k t' e f x = by_kind k t' store e (λ peers fits is. does k peers fits t' store (x store m peers st) (store_past k peers fits f))

  pub receiving_arm : (from : Address) (clock : Option ℕ) (t' : List ℕ) → kind_of c ≡ carries (receives from clock) → Receiving a from isKnown places clock m t t' r
      → Dispatched a c isKnown places st m t store t' store r
  receiving_arm from clock t' e x =
      by_kind (carries (receives from clock)) t' store e (λ peers fits is.
      let k = carries (receives from clock) in
      does k peers fits t' store (x store peers st fits is) (store_past k peers fits refl))

  pub submitting_arm : (to : Address) (now : ℕ) (t' store' : List ℕ) → kind_of c ≡ carries (submits to now) → Submitting a to now m t store t' store' r
      → Dispatched a c isKnown places st m t store t' store' r
  submitting_arm to now t' store' e x =
      by_kind (carries (submits to now)) t' store' e (λ peers fits is.
      does (carries (submits to now)) peers fits t' store' (x peers st).acts (x peers st).stores)
