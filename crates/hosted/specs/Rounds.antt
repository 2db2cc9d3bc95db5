-- A host that plays rounds, by the calls that it made and the answers that it saw; and demand 3 in its words.
use Rattle.std.specs.Prelude.{ℕ, ◌≤◌, ◌≡◌, Bool, true, false, ◌&&◌, List, [], ◌∷◌, ◌++◌, eqb, length, is_none}
use Rattle.message.specs.Head.{key}
use Rattle.message.specs.Attributes.{message_of}
use Rattle.stats.specs.declared.StunAgentStats.{StunAgentStats}
use Rattle.model.specs.Calls.{submits as submits-to, sends, receives, Kind, carries, scans, names, meets, counts, on_some}
use Rattle.model.specs.Says.{refused_by}
use Rattle.model.specs.Runs.{Turn}
use Rattle.model.specs.declared.StunAgentBuilder.{StunAgentBuilder}
use Rattle.model.specs.declared.Answer.{Answer}
use Rattle.model.specs.declared.Answer.TheVariants as answer
use Rattle.runs.specs.Answers.{is_yes}
use Rattle.runs.specs.Run.{kind_in, hands_out, alters}
use Rattle.runs.specs.Round.{transmission, poll, is_report, Step, calls, plays, is_scan}
use Rattle.runs.specs.Times.{NoLater}
use Rattle.runs.specs.Demand.{Steady, Submission, submits, most, Spaced}
use Rattle.runs.specs.Counts.{Exchange}
use Rattle.runs.specs.Ends.{responds_to}
use Rattle.hosted.specs.Session.{Owned, sent_in, timed_out_at, Submitted}

-- "Takes transmissions until none is left",
pub data Transmissions (now : ℕ) : List Turn → List Answer → Type 0 where
  none_left : Transmissions now (transmission now ∷ []) (answer.None ∷ [])
  one_more : {a : Answer} {ts : List Turn} {l : List Answer} → hands_out a ≡ true → Transmissions now ts l
      → Transmissions now (transmission now ∷ ts) (a ∷ l)

-- "then polls until told to wait": until that clock.
pub data Reports (now : ℕ) : List Turn → List Answer → ℕ → Type 0 where
  told_to_wait : {clock : ℕ} → Reports now (poll now ∷ []) (answer.Wait clock ∷ []) clock
  one_report : {a : Answer} {ts : List Turn} {l : List Answer} {clock : ℕ} → is_report a ≡ true → Reports now ts l clock
      → Reports now (poll now ∷ ts) (a ∷ l) clock

-- "Transmissions and polls only in rounds."
pub data Played : List Step → List Turn → List Answer → Type 0 where
  ends : Played [] [] []
  then_call : {t : Turn} {a : Answer} {ss : List Step} {ts : List Turn} {l : List Answer} → is_scan (kind_in t) ≡ false → Played ss ts l
      → Played (calls t ∷ ss) (t ∷ ts) (a ∷ l)
  then_round : {now clock : ℕ} {rs ps ts : List Turn} {k j l : List Answer} {ss : List Step} → Transmissions now rs k
      → Reports now ps j clock → Played ss ts l → Played (plays now ∷ ss) (rs ++ (ps ++ ts)) (k ++ (j ++ l))

-- "Answered, cancelled in either way, reconfigured or submitted again": what a call did to x, by its answer.
abbrev pub touches : ℕ → Kind → List ℕ → Answer → Bool
touches x (carries (submits-to to now)) m a = is_none (refused_by a) && on_some (message_of m) false (λ y. eqb (key y.transaction_id) x)
touches x (carries (sends to)) m a = false
touches x (carries (receives from clock)) m a = is_yes a && responds_to x m
touches x (scans s now) m a = false
touches x (names id wish) m a = is_none (refused_by a) && (alters wish && eqb (key id) x)
touches x (meets addr y) m a = false
touches x (counts f) m a = false

abbrev pub Untouched : ℕ → List Turn → List Answer → Type 0
Untouched x [] l = Unit {0}
Untouched x (t ∷ ts) [] = Unit {0}
Untouched x (t ∷ ts) (a ∷ l) = (touches x (kind_in t) t.bytes a ≡ false) × Untouched x ts l

-- A session with a request in it, made of these steps before its submission and after it, in none of which the request is touched.
pub record Plays
    {x : ℕ} {b : StunAgentBuilder} {was : StunAgentStats} {o : Owned} {before : List Turn} {q : Submission} {later : List Turn}
    (s : Submitted x b was o before q later) (pre post : List Step) : Type 0 where
  -- "clocks never falling nor above 2^60"
  pub steady : Steady 0 (pre ++ (calls (submits q) ∷ post))
  pub played_before : Played pre before s.earlier
  pub played_later : Played post later s.replies
  pub alone : Untouched x later s.replies

-- ---- demand 3

-- Of what the host saw of x in one session,
pub record Seldom (x : ℕ) (b : StunAgentBuilder) (l : List Exchange) : Type 0 where
  -- "goes out at most max(R,1) times by UDP, once by TCP"
  pub goes_out_at_most : length (sent_in x l) ≤ most b.transport b.rto
  -- "gap k is at least min(initial × 2^(k-1), max)"
  pub gap_at_least : Spaced b.rto (sent_in x l)

-- and in two.
pub record NeverLater (x : ℕ) (b : StunAgentBuilder) (l l' : List Exchange) : Type 0 where
  pub first : Seldom x b l
  pub second : Seldom x b l'
  -- "each send the first run makes, and its timeout, comes no later in the second"
  pub each_send_no_later : NoLater (sent_in x l') (sent_in x l)
  pub timeout_no_later : NoLater (timed_out_at x l') (timed_out_at x l)
