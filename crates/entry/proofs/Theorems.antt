-- What follows of `Performed`, which `call`, `door` and `step` promise, and of `Started`, which `start` promises.
--     as_model                                           of a table with all its rows a call is the model's
--     refused_exactly, short_refused, passed_exactly     which refusal a call answers, and when it isn't refused
--     refused_same                                       a refused call changes nothing: agent, table, store, peers and statistics
--     one_outcome, one_start                             at most one outcome meets the promise
--     stays_formed                                       a world that is well formed stays so
--     peers_kept                                         the peers change at most at place *count*
--     off_untouched                                      while statistics are off, the record isn't touched
--     start_zeroed, start_off, start_refused             the record after a start
use Rattle.stats.specs.declared.Event.{Event}
use Rattle.model.specs.declared.Refusal.{Refusal}
use Rattle.model.specs.declared.Refusal.TheVariants.{Settings, State}
use Rattle.std.specs.Prelude.{None, Some, Result, Err}
use Prim.Native.Nat.{ℕ, ◌≤◌, ◌<◌}
use mathlib.Core.Path.{◌≡◌, refl, sym, ap, subst, ◌∙◌}
use mathlib.Core.Bool.{Bool, true, false}
use mathlib.Core.Logic.{◌↔◌}
use mathlib.Core.List.{List}
use Rattle.std.proofs.Common.{arith}
use lib.ListN.{length, get_or}
use Rattle.address.specs.declared.Address.{Address}
use Rattle.waits.specs.Waits.{within_limits}
use Rattle.stats.specs.Count.{counted, zeroed}
use Rattle.stats.specs.declared.StunAgentStats.{StunAgentStats}
use Rattle.stats.proofs.Fields.{nothing, reset}
use Rattle.records.specs.Coding.{size}
use Rattle.model.specs.World.{World, StateFormed}
use Rattle.model.specs.Calls.{kind_of}
use Rattle.model.specs.Refusals.{number_of, holds}
use Rattle.model.specs.Fresh.{build_of}
use Rattle.model.specs.Says.{Said, refused_by, says as modelSays}
use Rattle.model.specs.declared.StunAgent.{StunAgent}
use Rattle.model.specs.declared.StunAgentBuilder.{StunAgentBuilder}
use Rattle.model.specs.declared.Call.{Call}
use Rattle.model.specs.declared.Answer.TheVariants as answer
use Rattle.model.proofs.Default.{build_refused, build_fresh}
use Rattle.model.proofs.Kept.{says_formed}
use Rattle.model.proofs.Peers.{says_peers}
use Rattle.model.proofs.Statistics as statistics
use Rattle.agent.specs.Ready.{world_of}
use Rattle.agent.specs.Said.{refusal_in, said_in}
use Rattle.agent.proofs.Said.{refused_in, short_in, passed_in, said_whole, by_model, said_number, said_refused, words_refused}
use Rattle.entry.specs.Entry.{told_of, Performed, event_in, Started}
use Rattle.entry.specs.declared.Answered.{Answered}

-- ---- a call

-- All as it was, but for the answer: t the words of the table, b the bytes of the store, l the peers.
pub record Unchanged (q : Refusal) (a : StunAgent) (t b : List ℕ) (l : List Address) (st : StunAgentStats)
    (t' b' : List ℕ) (l' : List Address) (st' : StunAgentStats) (r : Answered) : Type 0 where
  pub answer : r.answer ≡ answer.Refused q
  pub agent : r.agent ≡ a
  pub table : t' ≡ t
  pub store : b' ≡ b
  pub peers : l' ≡ l
  pub stats : st' ≡ st

-- Two outcomes alike: the answer, the agent, every lent word, byte, peer and number.
pub record Alike (t t' b b' : List ℕ) (l l' : List Address) (st st' : StunAgentStats) (r r' : Answered) : Type 0 where
  pub answer : r.answer ≡ r'.answer
  pub agent : r.agent ≡ r'.agent
  pub table : t ≡ t'
  pub store : b ≡ b'
  pub peers : l ≡ l'
  pub stats : st ≡ st'

module _
    (a : StunAgent) (c : Call) (m t store : List ℕ) (peers : List Address) (st : StunAgentStats)
    (t' store' : List ℕ) (peers' : List Address) (st' : StunAgentStats) (r : Answered)
    (p : Performed a c m t store peers st t' store' peers' st' r) where
  abbrev w : World
  w = world_of a t store peers st

  -- The promise, of any property of what the host has.
  of_said : (Q : Said → Type 0) → Q (said_in t w (kind_of c) m) → Q (told_of r t' store' peers' st')
  of_said Q h = subst Q (sym p.says) h

  pub as_model : size ≤ length t → told_of r t' store' peers' st' ≡ modelSays 32 w c m
  as_model h = p.says ∙ said_whole t w (kind_of c) m h

  -- Of any table the answer tells the refusal.
  pub numbered : refused_by r.answer ≡ refusal_in t w (kind_of c) m
  numbered = of_said (λ s. refused_by s.answer ≡ refusal_in t w (kind_of c) m) (said_number t w (kind_of c) m)

  -- "Given exactly when"; "where several apply, the lowest number is answered".
  pub refused_exactly : size ≤ length t → (q : Refusal) → (refused_by r.answer ≡ Some q)
      ↔ ((holds 32 w (kind_of c) m q ≡ true) × ((l : Refusal) → number_of l < number_of q → holds 32 w (kind_of c) m l ≡ false))
  refused_exactly h q = rw numbered (refused_in t w (kind_of c) m h q)

  pub passed_exactly : (refused_by r.answer ≡ None) ↔ ((size ≤ length t) × ((q : Refusal) → holds 32 w (kind_of c) m q ≡ false))
  passed_exactly = rw numbered (passed_in t w (kind_of c) m)

  -- "A refused call answers its number and leaves state, statistics, store and peers unchanged, the clock mark included."
  pub refused_same : (q : Refusal) → refusal_in t w (kind_of c) m ≡ Some q → Unchanged q a t store peers st t' store' peers' st' r
  refused_same n e =
      let z = p.says ∙ said_refused t w (kind_of c) m n e in
      let words = p.words ∙ words_refused t w (kind_of c) m n e in
      grind arith

  -- A table that hasn't all its rows is "a state not well formed".
  pub short_refused : length t < size → Unchanged State a t store peers st t' store' peers' st' r
  short_refused h = refused_same State (short_in t w (kind_of c) m h)

  pub one_outcome : (t'' store'' : List ℕ) (peers'' : List Address) (st'' : StunAgentStats) (r'' : Answered)
      → Performed a c m t store peers st t'' store'' peers'' st'' r'' → Alike t' t'' store' store'' peers' peers'' st' st'' r r''
  one_outcome t'' store'' peers'' st'' r'' q =
      let z : told_of r t' store' peers' st' ≡ told_of r'' t'' store'' peers'' st'' = p.says ∙ sym q.says in
      let words = p.words ∙ sym q.words in
      grind arith

  pub stays_formed : StateFormed 32 w → StateFormed 32 (world_of r.agent t' store' peers' st')
  stays_formed f =
      of_said (λ s. StateFormed 32 s.world)
      (by_model t w (kind_of c) m (λ s. StateFormed 32 s.world) (says_formed 32 w (kind_of c) m f) f)

  pub peers_kept : (length peers' ≡ length peers) × ((i : ℕ) (d : Address) → (i ≡ a.peers → ⊥) → get_or peers' i d ≡ get_or peers i d)
  peers_kept = of_said Kept (by_model t w (kind_of c) m Kept (says_peers 32 w (kind_of c) m) (refl, λ i d n. refl))
    where
      Kept : Said → Type 0
      Kept s =
          (length s.world.peers ≡ length peers)
          × ((i : ℕ) (d : Address) → (i ≡ a.peers → ⊥) → get_or s.world.peers i d ≡ get_or peers i d)

  -- "None while off."
  pub off_untouched : a.stats ≡ false → st' ≡ st
  off_untouched off =
      of_said (λ s. s.world.stats ≡ st)
      (by_model t w (kind_of c) m (λ s. s.world.stats ≡ st) (statistics.off_untouched 32 w (kind_of c) m off) refl)

-- ---- a start

module _ (b : StunAgentBuilder) (st st' : StunAgentStats) (r : Result (StunAgent × Event) Refusal) (p : Started b st st' r) where
  pub one_start : (st'' : StunAgentStats) (r'' : Result (StunAgent × Event) Refusal) → Started b st st'' r'' → (r ≡ r'') × (st' ≡ st'')
  one_start st'' r'' q =
      let z : r ≡ r'' = p.says ∙ sym q.says in
      (z, p.records ∙ ap (λ (x : Result (StunAgent × Event) Refusal). counted (event_in x) st) z ∙ sym q.records)

  -- What is counted, by what `build` answers.
  records_by : {y : Result (StunAgent × Event) Refusal} → build_of b ≡ y → st' ≡ counted (event_in y) st
  records_by e = p.records ∙ ap (λ (x : Result (StunAgent × Event) Refusal). counted (event_in x) st) (p.says ∙ e)

  -- "The record zeroed if statistics are on."
  pub start_zeroed : within_limits b.rto ≡ true → b.stats ≡ true → st' ≡ zeroed
  start_zeroed within on = records_by (build_fresh b within) ∙ rw on (sym (reset st))

  pub start_off : b.stats ≡ false → st' ≡ st
  start_off off = go (within_limits b.rto) refl
    where
      go : (t : Bool) → within_limits b.rto ≡ t → st' ≡ st
      go true within = records_by (build_fresh b within) ∙ rw off (sym (nothing st))
      go false past = records_by (build_refused b past) ∙ sym (nothing st)

  pub start_refused : within_limits b.rto ≡ false → (r ≡ Err Settings) × (st' ≡ st)
  start_refused past = (p.says ∙ build_refused b past, records_by (build_refused b past) ∙ sym (nothing st))
