-- When one request goes out and when it ends, given only the clocks of the rounds: each send is at the first round at or after the last
-- send plus its wait, and the end likewise. And what it means for one list of moments to be no later than another.
use Rattle.std.specs.Prelude.{ℕ, zero, suc, ◌+◌, ◌≤◌, cond, List, [], ◌∷◌, leb, Option, None, Some}
use Rattle.waits.specs.Waits.{wait_of, final_wait}
use Rattle.waits.specs.declared.RequestRto.{RequestRto}
use Rattle.waits.specs.declared.Transport.{Transport}
use Rattle.model.specs.Calls.{on_some}

-- The first clock that isn't before a.
unfoldable pub next : List ℕ → ℕ → Option ℕ
next [] a = None
next (t ∷ ts) a = cond (leb a t) (Some t) (next ts a)

-- The sends that are left, k of them, after a send at clock l with step count c.
unfoldable pub send_times : RequestRto → ℕ → ℕ → ℕ → List ℕ → List ℕ
send_times s zero c l ts = []
send_times s (suc k) c l ts = on_some (next ts (l + wait_of s c)) [] (λ t. t ∷ send_times s k (suc c) t ts)

-- The end, with k sends left.
unfoldable pub end_time : Transport → RequestRto → ℕ → ℕ → ℕ → List ℕ → Option ℕ
end_time tr s zero c l ts = next ts (l + final_wait tr s)
end_time tr s (suc k) c l ts = on_some (next ts (l + wait_of s c)) None (λ t. end_time tr s k (suc c) t ts)

-- If there is a right moment, there is a left one, and it is no later.
abbrev pub Sooner : Option ℕ → Option ℕ → Type 0
Sooner o None = Unit {0}
Sooner None (Some t) = ⊥
Sooner (Some u) (Some t) = u ≤ t

-- Each moment of the right list has one at its place in the left, no later.
abbrev pub NoLater : List ℕ → List ℕ → Type 0
NoLater us [] = Unit {0}
NoLater [] (t ∷ ts) = ⊥
NoLater (u ∷ us) (t ∷ ts) = (u ≤ t) × NoLater us ts

-- Each moment is at least its wait after the one before it; the first wait is wait c, after l.
abbrev pub Gaps : RequestRto → ℕ → ℕ → List ℕ → Type 0
Gaps s c l [] = Unit {0}
Gaps s c l (t ∷ ts) = (l + wait_of s c ≤ t) × Gaps s (suc c) t ts

-- Ascending, and not below m.
abbrev pub Rising : ℕ → List ℕ → Type 0
Rising m [] = Unit {0}
Rising m (t ∷ ts) = (m ≤ t) × Rising t ts

-- The second list is the first with more clocks between.
pub data More : List ℕ → List ℕ → Type 0 where
  same : More [] []
  both : {t : ℕ} {ts us : List ℕ} → More ts us → More (t ∷ ts) (t ∷ us)
  added : {u : ℕ} {ts us : List ℕ} → More ts us → More ts (u ∷ us)

-- An optional moment as a list.
abbrev pub list_of : Option ℕ → List ℕ
list_of None = []
list_of (Some t) = t ∷ []
