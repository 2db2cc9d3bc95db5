-- Worlds of a run whose clocks are steady: well formed, as the agent was built, with a mark that the clocks to come don't pass.
--     Ok, ok_said, next_ok      such a world, and the one after a call
--     run_append                a run in two parts
--     ok_transmits, ok_round, transmits_world, polls_world, round_world      the world after a round or a part of it
--     Reaches, reaches          the world after the first steps of a run, and the clocks to come
--     never_append, never_call, never_bad      from such a world no call is refused by 1 or 3
use Rattle.model.specs.declared.Refusal.{Refusal}
use Rattle.model.specs.declared.Refusal.TheVariants.{Clock}
use Rattle.std.specs.Prelude.{Option, None, Some}
use Prim.Native.Nat.{ℕ, ◌^◌, ◌≤◌}
use mathlib.Core.Path.{◌≡◌, refl, sym, ◌∙◌}
use mathlib.Core.Bool.{false, ◌||◌}
use mathlib.Core.List.{List, [], ◌∷◌, ◌++◌}
use lib.Dec.{ltb}
use borrow.Author.Tests.{le-ltb}
use native.Mathlib.Omega.{arith}
use Rattle.waits.specs.declared.RequestRto.{RequestRto}
use Rattle.waits.specs.declared.Transport.{Transport}
use Rattle.requests.proofs.Lists.{apart}
use Rattle.model.specs.World.{World, StateFormed}
use Rattle.model.specs.Calls.{Kind, clock_of, on_some}
use Rattle.model.specs.Refusals.{refusal_of}
use Rattle.model.specs.Effects.{mark_after}
use Rattle.model.specs.Says.{says_of}
use Rattle.model.specs.Runs.{Turn, run}
use Rattle.model.proofs.Refused.{refused_exactly, refused_same}
use Rattle.model.proofs.Classes.{never_state, done}
use Rattle.model.proofs.Kept.{says_formed, says_agent}
use Rattle.runs.specs.Run.{kind_in, said}
use Rattle.runs.specs.Round.{transmission, poll, Transmits, none_left, one_more, Polls, told_to_wait, one_report, Round, round, Step, Runs, ends, then_call, then_round}
use Rattle.runs.specs.Demand.{SteadyAt, Steady, NeverBad}

pub record Ok (rows : ℕ) (tr : Transport) (set : RequestRto) (m : ℕ) (w : World) : Type 0 where
  pub formed : StateFormed rows w
  pub transport : w.agent.transport ≡ tr
  pub rto : w.agent.rto ≡ set
  pub mark : w.agent.mark ≤ m

-- a clock that isn't refused
clock_fine : (mark : ℕ) (c : Option ℕ) (m : ℕ) → mark ≤ m → SteadyAt c m (λ u. Unit {0})
    → on_some c false (λ now. ltb (2 ^ 60) now || ltb now mark) ≡ false
clock_fine mark None m l h = refl
clock_fine mark (Some t) m l h = rw (le-ltb (2 ^ 60) t h.1, le-ltb t mark (omega (arith, h.0)))

module _ (rows : ℕ) (tr : Transport) (set : RequestRto) where
  mark_said : (w : World) (k : Kind) (b : List ℕ) (u : ℕ) → w.agent.mark ≤ u → mark_after w k ≤ u → (says_of rows w k b).world.agent.mark ≤ u
  mark_said w k b u l h = go (refusal_of rows w k b) refl
    where
      go : (o : Option Refusal) → refusal_of rows w k b ≡ o → (says_of rows w k b).world.agent.mark ≤ u
      go None e = rw (done rows w k b e).agent h
      go (Some q) e = rw (refused_same rows w k b q e) l

  pub ok_said : (m u : ℕ) (w : World) (k : Kind) (b : List ℕ) → Ok rows tr set m w → m ≤ u → mark_after w k ≤ u → Ok rows tr set u (says_of rows w k b).world
  ok_said m u w k b o l h =
      let a = says_agent rows w k b in
      record {
        formed = says_formed rows w k b o.formed;
        transport = a.transport ∙ o.transport;
        rto = a.rto ∙ o.rto;
        mark = mark_said w k b u (omega (arith, o.mark)) h;
      }

  -- the next clock's lower bound, with what holds there
  pub record Next (t : Turn) (w : World) (K : ℕ → Type 0) : Type 0 where
    pub floor : ℕ
    pub ok : Ok rows tr set floor (said rows w t).world
    pub steady : K floor

  pub next_ok : (m : ℕ) (t : Turn) (w : World) (K : ℕ → Type 0) → Ok rows tr set m w → SteadyAt (clock_of (kind_in t)) m K → Next t w K
  next_ok m t w K o h = go (clock_of (kind_in t)) refl h
    where
      go : (c : Option ℕ) → clock_of (kind_in t) ≡ c → SteadyAt c m K → Next t w K
      go None e h = record { floor = m; ok = ok_said m m w (kind_in t) t.bytes o (omega arith) (rw e o.mark); steady = h }
      go (Some u) e h = record { floor = u; ok = ok_said m u w (kind_in t) t.bytes o h.0 (rw e (omega arith)); steady = h.2 }

-- a run in two parts
pub run_append : (rows : ℕ) (w : World) (rs bs : List Turn) → run rows w (rs ++ bs) ≡ run rows (run rows w rs) bs
run_append rows w [] bs = refl
run_append rows w (t ∷ rs) bs = run_append rows (said rows w t).world rs bs

pub transmits_world : {rows now : ℕ} {w v : World} {ts : List Turn} → Transmits rows now w ts v → run rows w ts ≡ v
transmits_world (none_left e) = refl
transmits_world (one_more e d) = transmits_world d

pub polls_world : {rows now clock : ℕ} {w v : World} {ts : List Turn} → Polls rows now w ts v clock → run rows w ts ≡ v
polls_world (told_to_wait e) = refl
polls_world (one_report e d) = polls_world d

pub round_world : {rows now clock : ℕ} {w u : World} {rs : List Turn} → Round rows now w rs u clock → run rows w rs ≡ u
round_world {rows} {w = w} (round {v} {u} {ts} {ps} a b) =
    run_append rows w ts ps ∙ rw (transmits_world a) (polls_world b)

module _ {rows : ℕ} {tr : Transport} {set : RequestRto} {now : ℕ} where
  pub ok_transmits : {w v : World} {ts : List Turn} → Transmits rows now w ts v → (m : ℕ) → m ≤ now → Ok rows tr set m w → Ok rows tr set now v
  ok_transmits (none_left {w} e) m l o = ok_said rows tr set m now w (kind_in (transmission now)) [] o l (omega arith)
  ok_transmits (one_more {w} e d) m l o = ok_transmits d now (omega arith) (ok_said rows tr set m now w (kind_in (transmission now)) [] o l (omega arith))

  ok_polls : {w v : World} {ts : List Turn} {clock : ℕ} → Polls rows now w ts v clock → Ok rows tr set now w → Ok rows tr set now v
  ok_polls (told_to_wait {w} e) o = ok_said rows tr set now now w (kind_in (poll now)) [] o (omega arith) (omega arith)
  ok_polls (one_report {w} e d) o = ok_polls d (ok_said rows tr set now now w (kind_in (poll now)) [] o (omega arith) (omega arith))

  pub ok_round : {w u : World} {rs : List Turn} {clock : ℕ} → Round rows now w rs u clock → (m : ℕ) → m ≤ now → Ok rows tr set m w → Ok rows tr set now u
  ok_round (round a b) m l o = ok_polls b (ok_transmits a m l o)

-- the world after the first steps of a run, and the clocks to come
pub record Reaches (rows : ℕ) (tr : Transport) (set : RequestRto) (rest : List Step) (w : World) : Type 0 where
  pub floor : ℕ
  pub ok : Ok rows tr set floor w
  pub steady : Steady floor rest

pub reaches : {rows : ℕ} {tr : Transport} {set : RequestRto} {w : World} {ss : List Step} {ts : List Turn} → Runs rows w ss ts
    → (rest : List Step) (m : ℕ) → Ok rows tr set m w → Steady m (ss ++ rest) → Reaches rows tr set rest (run rows w ts)
reaches ends rest m o h = record { floor = m; ok = o; steady = h }
reaches {rows} {tr} {set} (then_call {w} {t} {ss} n d) rest m o h =
    let z = next_ok rows tr set m t w (λ u. Steady u (ss ++ rest)) o h in
    reaches d rest z.floor z.ok z.steady
reaches {rows} {tr} {set} (then_round {w} {u} {now} {rs = rs} {ts = ts} a d) rest m o h =
    rw (run_append rows w rs ts, round_world a) (reaches d rest now (ok_round a m h.0 o) h.2)

-- no call is refused by 1 or 3

pub never_append : (rows : ℕ) (w : World) (rs bs : List Turn) → NeverBad rows w rs → NeverBad rows (run rows w rs) bs → NeverBad rows w (rs ++ bs)
never_append rows w [] bs a b = b
never_append rows w (t ∷ rs) bs a b = (a.0, a.1, never_append rows (said rows w t).world rs bs a.2 b)

module _ (rows : ℕ) (tr : Transport) (set : RequestRto) (m : ℕ) (w : World) (t : Turn) (o : Ok rows tr set m w) where
  not_clock : SteadyAt (clock_of (kind_in t)) m (λ u. Unit {0}) → refusal_of rows w (kind_in t) t.bytes ≡ Some Clock → ⊥
  not_clock h e =
      apart (sym ((refused_exactly rows w (kind_in t) t.bytes Clock).0 e).0 ∙ clock_fine w.agent.mark (clock_of (kind_in t)) m o.mark h)

  pub never_call : (ts : List Turn) → SteadyAt (clock_of (kind_in t)) m (λ u. Unit {0}) → NeverBad rows (said rows w t).world ts → NeverBad rows w (t ∷ ts)
  never_call ts h n = (never_state rows w (kind_in t) t.bytes o.formed, not_clock h, n)

forget : (c : Option ℕ) (m : ℕ) (K : ℕ → Type 0) → SteadyAt c m K → SteadyAt c m (λ u. Unit {0})
forget None m K h = tt
forget (Some t) m K h = (h.0, h.1, tt)

module _ {rows : ℕ} {tr : Transport} {set : RequestRto} {now : ℕ} (low : now ≤ 2 ^ 60) where
  never_transmits : {w v : World} {ts : List Turn} → Transmits rows now w ts v → (m : ℕ) → m ≤ now → Ok rows tr set m w → NeverBad rows w ts
  never_transmits (none_left {w} e) m l o = never_call rows tr set m w (transmission now) o [] (l, low, tt) tt
  never_transmits (one_more {w} {ts = ts} e d) m l o =
      never_call rows tr set m w (transmission now) o ts (l, low, tt)
      (never_transmits d now (omega arith) (ok_said rows tr set m now w (kind_in (transmission now)) [] o l (omega arith)))

  never_polls : {w v : World} {ts : List Turn} {clock : ℕ} → Polls rows now w ts v clock → Ok rows tr set now w → NeverBad rows w ts
  never_polls (told_to_wait {w} e) o = never_call rows tr set now w (poll now) o [] (omega arith, low, tt) tt
  never_polls (one_report {w} {ts = ts} e d) o =
      never_call rows tr set now w (poll now) o ts (omega arith, low, tt)
      (never_polls d (ok_said rows tr set now now w (kind_in (poll now)) [] o (omega arith) (omega arith)))

  never_round : {w u : World} {rs : List Turn} {clock : ℕ} → Round rows now w rs u clock → (m : ℕ) → m ≤ now → Ok rows tr set m w → NeverBad rows w rs
  never_round {w} (round {v} {u} {ts} {ps} a b) m l o =
      never_append rows w ts ps (never_transmits a m l o) (rw (transmits_world a) (never_polls b (ok_transmits a m l o)))

pub never_bad : {rows : ℕ} {tr : Transport} {set : RequestRto} {w : World} {ss : List Step} {ts : List Turn} → Runs rows w ss ts
    → (m : ℕ) → Ok rows tr set m w → Steady m ss → NeverBad rows w ts
never_bad ends m o h = tt
never_bad {rows} {tr} {set} (then_call {w} {t} {ss} {ts} n d) m o h =
    let z = next_ok rows tr set m t w (λ u. Steady u ss) o h in
    never_call rows tr set m w t o ts (forget (clock_of (kind_in t)) m (λ u. Steady u ss) h) (never_bad d z.floor z.ok z.steady)
never_bad {rows} {tr} {set} (then_round {w} {u} {now} {rs = rs} {ts = ts} a d) m o h =
    never_append rows w rs ts (never_round h.1 a m h.0 o) (rw (round_world a) (never_bad d now (ok_round a m h.0 o) h.2))
