-- Demand 3 of two sessions with the same settings and lent memory, the second with more rounds; and its last sentence, of one session.
--     session_demand3, session_last     the theorem
use Prim.Native.Nat.{ℕ}
use mathlib.Core.Path.{◌≡◌, sym, ap, subst, ◌∙◌}
use mathlib.Core.List.{List, [], ◌∷◌, ◌++◌, append-nil}
use Rattle.stats.specs.declared.StunAgentStats.{StunAgentStats}
use Rattle.model.specs.World.{World}
use Rattle.model.specs.Runs.{Turn, answers}
use Rattle.model.specs.declared.StunAgentBuilder.{StunAgentBuilder}
use Rattle.model.specs.declared.Answer.{Answer}
use Rattle.runs.specs.Round.{Round, round, Step, plays, MoreRounds}
use Rattle.runs.specs.Demand.{Steady, Start, begins, Submission, Life, sends_of, timeout_of, EachRun}
use Rattle.runs.specs.Last.{LastSentence}
use Rattle.runs.specs.Counts.{Exchange}
use Rattle.runs.specs.Whole.{Demand3}
use Rattle.runs.proofs.Steady.{round_world}
use Rattle.runs.proofs.Last.{last_sentence}
use Rattle.runs.proofs.Whole.{demand3}
use Rattle.hosted.specs.Session.{Owned, world_in, Serves, Session, start_of, AsModel, sent_in, timed_out_at, Submitted, saw}
use Rattle.hosted.specs.Rounds.{Transmissions, Reports, Played, Plays, Seldom, NeverLater}
use Rattle.hosted.proofs.Session.{serves_as_model, served_as_model}
use Rattle.hosted.proofs.Theorems.{session_sends, session_timeouts}
use Rattle.hosted.proofs.Rounds.{transmits, polls, played_runs, plays_life}

module _ (x : ℕ) (b : StunAgentBuilder) (was : StunAgentStats) (o o' : Owned) (q : Submission) (before later before' later' : List Turn)
    (s : Submitted x b was o before q later) (s' : Submitted x b was o' before' q later')
    (store : o'.store ≡ o.store) (peers : o'.peers ≡ o.peers)
    (pre post pre' post' : List Step) (more-before : MoreRounds pre pre') (more : MoreRounds post post')
    (p : Plays s pre post) (p' : Plays s' pre' post') where
  same : start_of b was o' ≡ start_of b was o
  same = rw (store, peers)

  compared : Demand3 32 x (start_of b was o) q before later before' later'
  compared =
      demand3 32 x (start_of b was o) q pre post pre' post' before later before' later' more-before more
      (plays_life x b was o before q later s pre post p)
      (subst (λ (z : Start). Life 32 x z q pre' post' before' later') same (plays_life x b was o' before' q later' s' pre' post' p'))

  seldom : (made rest : List Turn) (l : List Exchange) → sent_in x l ≡ sends_of 32 x (start_of b was o) q made rest
      → EachRun 32 x (start_of b was o) q made rest → Seldom x b l
  seldom made rest l a r = record { goes_out_at_most = rw a r.goes_out_at_most; gap_at_least = rw a r.gap_at_least }

  pub session_demand3 : NeverLater x b (saw s) (saw s')
  session_demand3 =
      let a = session_sends x b was o before q later s in
      let a' : sent_in x (saw s') ≡ sends_of 32 x (start_of b was o) q before' later' =
      session_sends x b was o' before' q later' s' ∙ ap (λ (z : Start). sends_of 32 x z q before' later') same in
      let e = session_timeouts x b was o before q later s in
      let e' : timed_out_at x (saw s') ≡ timeout_of 32 x (start_of b was o) q before' later' =
      session_timeouts x b was o' before' q later' s' ∙ ap (λ (z : Start). timeout_of 32 x z q before' later') same in
      record {
        first = seldom before later (saw s) a compared.first_run;
        second = seldom before' later' (saw s') a' compared.second_run;
        each_send_no_later = rw (a, a') compared.each_send_no_later;
        timeout_no_later = rw (e, e') compared.timeout_no_later;
      }

-- "The wait that ends a round": after a session, a round at `now` that was told to wait until `clock`.
module _ (b : StunAgentBuilder) (was : StunAgentStats) (o : Owned) (ss : List Step) (before : List Turn) (l : List Answer) (here : Owned)
    (s : Session b was o before l here) (p : Played ss before l) (now clock : ℕ) (steady : Steady 0 (ss ++ (plays now ∷ [])))
    (rs ps : List Turn) (k j : List Answer) (o' : Owned) (sends : Transmissions now rs k) (ends : Reports now ps j clock)
    (d : Serves here (rs ++ ps) (k ++ j) o') where
  model : AsModel (begins (start_of b was o)) before l here
  model = served_as_model b was o before l here s

  pub session_last : LastSentence 32 (start_of b was o) before now clock (world_in o')
  session_last =
      let w = world_in here in
      let m = serves_as_model d model.whole in
      let y = transmits 32 sends w ps j m.answers_are in
      let z = polls 32 ends y.0 [] [] (append-nil j ∙ y.2 ∙ ap (answers 32 y.0) (sym (append-nil ps))) in
      let r : Round 32 now w (rs ++ ps) z.0 clock = round y.1 z.1 in
      let is : z.0 ≡ world_in o' = sym (round_world r) ∙ sym m.world_is in
      subst (LastSentence 32 (start_of b was o) before now clock) is
      (last_sentence 32 (start_of b was o) ss before (rs ++ ps) now clock z.0
      (played_runs 32 p (begins (start_of b was o)) model.answers_are) steady
      (subst (λ (v : World). Round 32 now v (rs ++ ps) z.0 clock) model.world_is r))
