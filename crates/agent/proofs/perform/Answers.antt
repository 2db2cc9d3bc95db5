-- `perform` meets its contract: each arm cites its function, at the call that the arm knows. Assumes nothing.
use mathlib.Core.Path.{refl, sym, ap, ◌∙◌}
use Rattle.model.specs.Calls.{kind_of}
use Rattle.agent.proofs.Arms.{unready_arm, counting_arm, meeting_arm, carrying_arm, looking_arm, turning_arm, receiving_arm, submitting_arm}
use Rattle.agent.proofs.perform.Goals as goal

pub returns-in-SendRequest : goal.returns-in-SendRequest
returns-in-SendRequest c = submitting_arm _ _ _ _ _ _ _ _ c.args.call (sym c.is_ready.ensures ∙ c.if-not-is_ready.false) _ _ _ _ (ap kind_of c.in-SendRequest.is) c.send_request.ensures

pub returns-in-Send : goal.returns-in-Send
returns-in-Send c = carrying_arm _ _ _ _ _ _ _ _ c.args.call (sym c.is_ready.ensures ∙ c.if-not-is_ready.false) _ (ap kind_of c.in-Send.is) c.send.ensures

pub returns-in-HandleStunMessageWithTime : goal.returns-in-HandleStunMessageWithTime
returns-in-HandleStunMessageWithTime c = receiving_arm _ _ _ _ _ _ _ _ c.args.call (sym c.is_ready.ensures ∙ c.if-not-is_ready.false) _ _ _ (ap kind_of c.in-HandleStunMessageWithTime.is) c.handle_stun_message_with_time.ensures

pub returns-in-HandleStunMessage : goal.returns-in-HandleStunMessage
returns-in-HandleStunMessage c = receiving_arm _ _ _ _ _ _ _ _ c.args.call (sym c.is_ready.ensures ∙ c.if-not-is_ready.false) _ _ _ (ap kind_of c.in-HandleStunMessage.is) c.handle_stun_message.ensures

pub returns-in-PollTransmit : goal.returns-in-PollTransmit
returns-in-PollTransmit c = turning_arm _ _ _ _ _ _ _ _ c.args.call (sym c.is_ready.ensures ∙ c.if-not-is_ready.false) _ _ (ap kind_of c.in-PollTransmit.is) refl c.poll_transmit.ensures

pub returns-in-Poll : goal.returns-in-Poll
returns-in-Poll c = turning_arm _ _ _ _ _ _ _ _ c.args.call (sym c.is_ready.ensures ∙ c.if-not-is_ready.false) _ _ (ap kind_of c.in-Poll.is) refl c.poll.ensures

pub returns-in-CancelRetransmissions : goal.returns-in-CancelRetransmissions
returns-in-CancelRetransmissions c = turning_arm _ _ _ _ _ _ _ _ c.args.call (sym c.is_ready.ensures ∙ c.if-not-is_ready.false) _ _ (ap kind_of c.in-CancelRetransmissions.is) refl c.cancel_retransmissions.ensures

pub returns-in-Cancel : goal.returns-in-Cancel
returns-in-Cancel c = turning_arm _ _ _ _ _ _ _ _ c.args.call (sym c.is_ready.ensures ∙ c.if-not-is_ready.false) _ _ (ap kind_of c.in-Cancel.is) refl c.cancel.ensures

pub returns-in-ConfigureTimeout : goal.returns-in-ConfigureTimeout
returns-in-ConfigureTimeout c = turning_arm _ _ _ _ _ _ _ _ c.args.call (sym c.is_ready.ensures ∙ c.if-not-is_ready.false) _ _ (ap kind_of c.in-ConfigureTimeout.is) refl c.configure_timeout.ensures

pub returns-in-ConfigureTimeoutWithMax : goal.returns-in-ConfigureTimeoutWithMax
returns-in-ConfigureTimeoutWithMax c = turning_arm _ _ _ _ _ _ _ _ c.args.call (sym c.is_ready.ensures ∙ c.if-not-is_ready.false) _ _ (ap kind_of c.in-ConfigureTimeoutWithMax.is) refl c.configure_timeout_with_max.ensures

pub returns-in-RequestTransaction : goal.returns-in-RequestTransaction
returns-in-RequestTransaction c = looking_arm _ _ _ _ _ _ _ _ c.args.call (sym c.is_ready.ensures ∙ c.if-not-is_ready.false) _ (ap kind_of c.in-RequestTransaction.is) c.request_transaction.ensures

pub returns-in-IsValidatedPeer : goal.returns-in-IsValidatedPeer
returns-in-IsValidatedPeer c = meeting_arm _ _ _ _ _ _ _ _ c.args.call (sym c.is_ready.ensures ∙ c.if-not-is_ready.false) _ _ (ap kind_of c.in-IsValidatedPeer.is) c.is_validated_peer.ensures

pub returns-in-ValidatedPeer : goal.returns-in-ValidatedPeer
returns-in-ValidatedPeer c = meeting_arm _ _ _ _ _ _ _ _ c.args.call (sym c.is_ready.ensures ∙ c.if-not-is_ready.false) _ _ (ap kind_of c.in-ValidatedPeer.is) c.validated_peer.ensures

pub returns-in-Stats : goal.returns-in-Stats
returns-in-Stats c = counting_arm _ _ _ _ _ _ _ _ c.args.call (sym c.is_ready.ensures ∙ c.if-not-is_ready.false) _ (ap kind_of c.in-Stats.is) c.read_stats.ensures

pub returns-in-RttAverage : goal.returns-in-RttAverage
returns-in-RttAverage c = counting_arm _ _ _ _ _ _ _ _ c.args.call (sym c.is_ready.ensures ∙ c.if-not-is_ready.false) _ (ap kind_of c.in-RttAverage.is) c.rtt_average.ensures

pub returns-in-OutstandingRequests : goal.returns-in-OutstandingRequests
returns-in-OutstandingRequests c = counting_arm _ _ _ _ _ _ _ _ c.args.call (sym c.is_ready.ensures ∙ c.if-not-is_ready.false) _ (ap kind_of c.in-OutstandingRequests.is) c.outstanding_requests.ensures

pub returns-in-Reset : goal.returns-in-Reset
returns-in-Reset c = counting_arm _ _ _ _ _ _ _ _ c.args.call (sym c.is_ready.ensures ∙ c.if-not-is_ready.false) _ (ap kind_of c.in-Reset.is) (λ l store m peers. c.reset.ensures l store m peers c.args.was)

pub returns-then-not-is_ready : goal.returns-then-not-is_ready
returns-then-not-is_ready c = unready_arm _ _ _ _ _ _ _ _ c.args.call (sym c.is_ready.ensures ∙ c.if-not-is_ready.true) refl
