-- Document 01, "Specimens": what the definitions of the layers give, beside what the document says. One list for all layers: a later
-- layer adds its specimens to it.
use Rattle.message.specs.declared.IntegrityAlgorithm.{IntegrityAlgorithm}
use Rattle.message.specs.declared.Message.{Message}
use Rattle.message.specs.declared.IntegrityAlgorithm.TheVariants.{Sha1, Sha256}
use Rattle.std.specs.Prelude.{ℕ, zero, suc, ◌-◌, ◌/◌, ◌%◌, ◌^◌, ◌≡◌, true, false, List, [], ◌∷◌, ◌++◌, map, take, replicate, Option, None, Some}
use Rattle.address.specs.declared.Host.TheVariants.{V4}
use Rattle.message.specs.Attributes.{message_of}
use Rattle.message.specs.declared.MessageClass.{MessageClass}
use Rattle.message.specs.declared.MessageClass.TheVariants.{Request, Indication, Success, Error}
use Rattle.waits.specs.Waits.{milliseconds, default_rto, within_limits, waits_of, wait_of, final_wait}
use Rattle.waits.specs.declared.RequestRto.{RequestRto}
use Rattle.waits.specs.declared.Transport.TheVariants.{Udp, Tcp}
use Rattle.request.specs.Request.{submitted, transmit_of, poll_of}
use Rattle.request.specs.Answers.{goes_out, record_after}
use Rattle.request.specs.declared.StunRequestState.{StunRequestState}
use Rattle.request.specs.declared.StunRequestPollRet.TheVariants.{WaitUntil, TimedOut}

-- What a definition gives, and what document 01 says: two values of one type, whatever the type.
pub data Specimen : Type 1 where
  gives : {A : Type 0} → A → A → Specimen

abbrev pub Holds : Specimen → Type 0
Holds (gives is says) = is ≡ says

abbrev pub AllHold : List Specimen → Type 0
AllHold [] = Unit
AllHold (x ∷ xs) = Holds x × AllHold xs

-- Settings, with the initial wait, the maximum and the final wait in nanoseconds.
abbrev pub settings : ℕ → ℕ → ℕ → ℕ → RequestRto
settings initial most count last = record { initial = initial; max = most; retransmits = count; last_retransmit = last }

-- The first n waits of settings, and all that they have by UDP.
unfoldable pub first_waits : RequestRto → ℕ → List ℕ
first_waits s zero = []
first_waits s (suc n) = first_waits s n ++ (wait_of s n ∷ [])

abbrev pub waits : RequestRto → List ℕ
waits s = first_waits s (waits_of Udp s)

-- A message of a type, with the identifier 1, a length field of n and these bytes behind the head.
unfoldable pub bytes_of : ℕ → ℕ → List ℕ → List ℕ
bytes_of type n body = type / 256 ∷ type % 256 ∷ n / 256 ∷ n % 256 ∷ 0x21 ∷ 0x12 ∷ 0xA4 ∷ 0x42 ∷ replicate 11 0 ++ (1 ∷ body)

-- An attribute with a value of four bytes.
unfoldable pub attribute : ℕ → List ℕ
attribute type = type / 256 ∷ type % 256 ∷ 0 ∷ 4 ∷ 9 ∷ 9 ∷ 9 ∷ 9 ∷ []

-- What is read of a Binding message with the identifier 1.
abbrev pub binding : MessageClass → Option IntegrityAlgorithm → Option Message
binding class integrity = Some (record { class = class; method = 1; transaction_id = record { hi = 0; lo = 1 }; integrity = integrity })

-- A request sent at 0 with an initial wait of 500 ms, R as given, and 8,000 ms at the end.
abbrev pub at_zero : ℕ → StunRequestState
at_zero count =
    submitted 0 (record { hi = 0; lo = 1 }) None 0 20 (record { host = V4 1; port = 3478 })
    (settings (milliseconds 500) (2 ^ 61) count (milliseconds 8000))

unfoldable pub specimens : List Specimen
specimens =
    -- S1: the default gives 500, 1,000, 2,000, 4,000, 8,000, 16,000 ms
    gives (waits default_rto) (map milliseconds (500 ∷ 1000 ∷ 2000 ∷ 4000 ∷ 8000 ∷ 16000 ∷ []))
    -- S2: R = 0 and R = 1 give no wait
    ∷ gives (waits (settings (milliseconds 500) (2 ^ 61) 0 (milliseconds 8000))) []
    ∷ gives (waits (settings (milliseconds 500) (2 ^ 61) 1 (milliseconds 8000))) []
    -- S3: 500 ms, max 3,000, R = 6
    ∷ gives (waits (settings (milliseconds 500) (milliseconds 3000) 6 (milliseconds 8000))) (map milliseconds (500 ∷ 1000 ∷ 2000 ∷ 3000 ∷ 3000 ∷ []))
    -- S4: R = 33, initial 1: the last wait
    ∷ gives (waits_of Udp (settings 1 (2 ^ 61) 33 0)) 32
    ∷ gives (wait_of (settings 1 (2 ^ 61) 33 0) 31) 2147483648
    -- S5: the default by TCP
    ∷ gives (final_wait Tcp default_rto) (milliseconds 39500)
    -- S6: R = 34 is refused
    ∷ gives (within_limits (settings (milliseconds 500) (2 ^ 61) 34 (milliseconds 8000))) false
    -- S7: the four classes
    ∷ gives (message_of (bytes_of 0x0001 0 [])) (binding Request None)
    ∷ gives (message_of (bytes_of 0x0011 0 [])) (binding Indication None)
    ∷ gives (message_of (bytes_of 0x0101 0 [])) (binding Success None)
    ∷ gives (message_of (bytes_of 0x0111 0 [])) (binding Error None)
    -- S8: 0 and 19 bytes are bad, and so is a length of 2
    ∷ gives (message_of []) None
    ∷ gives (message_of (take 19 (bytes_of 0x0001 0 []))) None
    ∷ gives (message_of (bytes_of 0x0001 2 (0 ∷ 0 ∷ []))) None
    -- S9: due = now sends, end = now times out; and neither a nanosecond earlier
    ∷ gives (goes_out (transmit_of Udp (milliseconds 500) (at_zero 3))) true
    ∷ gives (goes_out (transmit_of Udp (milliseconds 500 - 1) (at_zero 3))) false
    ∷ gives (poll_of Udp (milliseconds 8000) (at_zero 1)) TimedOut
    ∷ gives (poll_of Udp (milliseconds 8000 - 1) (at_zero 1)) (WaitUntil (milliseconds 8000))
    -- S10: sent at 0, 500 ms, R = 3, next call at 700 ms: sent, then due at 1,700 ms
    ∷ gives (goes_out (transmit_of Udp (milliseconds 700) (at_zero 3))) true
    ∷ gives (poll_of Udp (milliseconds 700) (record_after (at_zero 3) (transmit_of Udp (milliseconds 700) (at_zero 3)))) (WaitUntil (milliseconds 1700))
    ∷ []

-- Beside the document's own, some of section 14: padding may hold anything and must be there; the last integrity type counts.
unfoldable pub attributes : List Specimen
attributes =
    gives (message_of (bytes_of 0x0001 16 (attribute 0x0008 ++ attribute 0x001C))) (binding Request (Some Sha256))
    ∷ gives (message_of (bytes_of 0x0001 16 (attribute 0x001C ++ attribute 0x0008))) (binding Request (Some Sha1))
    ∷ gives (message_of (bytes_of 0x0001 16 (0x80 ∷ 0x22 ∷ 0 ∷ 1 ∷ 7 ∷ 7 ∷ 7 ∷ 7 ∷ attribute 0x0008))) (binding Request (Some Sha1))
    ∷ gives (message_of (bytes_of 0x0001 8 (0x80 ∷ 0x22 ∷ 0 ∷ 5 ∷ 7 ∷ 7 ∷ 7 ∷ 7 ∷ []))) None
    ∷ []
