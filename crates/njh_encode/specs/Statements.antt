-- What is right of the colon: a statement.
use Rattle.std.specs.Prelude.{ℕ, ◌==◌, List, length, replicate, Option, Some, None, Result, Ok, Err, cond, bytes_eq}
use Rattle.std.specs.Prelude.{codes}
use Rattle.std.specs.Option.{option_map, option_and_then, ok_or}
use Rattle.njh_bisync.specs.declared.frame.Control.TheVariants.{Enquiry, Ack0, Nak}
use Rattle.njh_block.specs.declared.rcb.ControlRcb.{ControlRcb}
use Rattle.njh_block.specs.declared.rcb.ControlRcb.TheVariants.{Request, Permission, Refusal, Completion}
use Rattle.njh_header.specs.SignOns.{SignOn}
use Rattle.njh_encode.specs.declared.fault.Reason.{Reason}
use Rattle.njh_encode.specs.declared.fault.Reason.TheVariants.{NoSuchWords, NoStream, NoSignOn, NoMessage, NoCommand}
use Rattle.njh_encode.specs.declared.statement.Ends.{Ends}
use Rattle.njh_encode.specs.declared.statement.Statement.{Statement}
use Rattle.njh_encode.specs.declared.statement.Statement.TheVariants as says
use Rattle.njh_encode.specs.Characters.{bytes_of_text}
use Rattle.njh_encode.specs.Messages.{message_between}
use Rattle.njh_encode.specs.Words.{back, behind, front, name_in, named, number_in, stream_in, first_word}

-- ---- one word

-- a frame that is no text
unfoldable pub frame_statement : List ℕ → Option Statement
frame_statement verb =
    cond (bytes_eq verb (codes "contact")) (Some (says.Control Enquiry))
    (cond (bytes_eq verb (codes "ENQ")) (Some (says.Control Enquiry))
    (cond (bytes_eq verb (codes "ack")) (Some (says.Control Ack0))
    (cond (bytes_eq verb (codes "ACK0")) (Some (says.Control Ack0))
    (cond (bytes_eq verb (codes "nak")) (Some (says.Control Nak))
    (cond (bytes_eq verb (codes "NAK")) (Some (says.Control Nak))
    (cond (bytes_eq verb (codes "end")) (Some says.End)
    (cond (bytes_eq verb (codes "EOT")) (Some says.End) None)))))))

-- a signal, or a sign-off
unfoldable pub signal_statement : List ℕ → Option Statement
signal_statement verb =
    cond (bytes_eq verb (codes "tick")) (Some says.Tick)
    (cond (bytes_eq verb (codes "garbled")) (Some says.Garbled)
    (cond (bytes_eq verb (codes "lost")) (Some says.Lost)
    (cond (bytes_eq verb (codes "sign-off")) (Some says.SignOff) None)))

abbrev pub alone_or : Option Statement → List ℕ → Result Statement Reason
alone_or (Some statement) verb = Ok statement
alone_or None verb = ok_or (signal_statement verb) NoSuchWords

unfoldable pub alone : List ℕ → Result Statement Reason
alone verb = alone_or (frame_statement verb) verb

-- ---- requests and their answers

unfoldable pub control_in : List ℕ → Option ControlRcb
control_in verb =
    cond (bytes_eq verb (codes "request")) (Some Request)
    (cond (bytes_eq verb (codes "permit")) (Some Permission)
    (cond (bytes_eq verb (codes "permission")) (Some Permission)
    (cond (bytes_eq verb (codes "refuse")) (Some Refusal)
    (cond (bytes_eq verb (codes "refusal")) (Some Refusal)
    (cond (bytes_eq verb (codes "complete")) (Some Completion) None)))))

unfoldable pub request : ControlRcb → List ℕ → Result Statement Reason
request rcb text = ok_or (option_map (λ stream. says.Request rcb stream) (stream_in text)) NoStream

-- ---- sign-ons: `as NODE block SIZE`, and `password WORD` after it if there is one

unfoldable pub password_in : List ℕ → Option (List ℕ)
password_in text =
    cond (length text == 0) (Some (replicate 8 0x40))
    (cond (bytes_eq (first_word text) (codes "password")) (name_in (behind text)) None)

unfoldable pub with_size : List ℕ → List ℕ → Option SignOn
with_size node text =
    option_and_then
    (λ size. option_map (λ password. record { node = node; block = size; password = password })
    (password_in (behind text)))
    (number_in (first_word text))

unfoldable pub with_block : List ℕ → List ℕ → Option SignOn
with_block node text = cond (bytes_eq (first_word text) (codes "block")) (with_size node (behind text)) None

unfoldable pub sign_on_in : List ℕ → Option SignOn
sign_on_in text = option_and_then (λ node. with_block node (behind (behind text))) (named (codes "as") text)

unfoldable pub sign_on_statement : ℕ → List ℕ → Result Statement Reason
sign_on_statement srcb text = ok_or (option_map (λ on. says.SignOn srcb on) (sign_on_in text)) NoSignOn

unfoldable pub sign_statement : List ℕ → Result Statement Reason
sign_statement text =
    cond (bytes_eq text (codes "off")) (Ok says.SignOff)
    (cond (bytes_eq (first_word text) (codes "on")) (sign_on_statement 0xc9 (behind text)) (Err NoSuchWords))

-- ---- nodal messages

-- `NODE USER`, the receiver of a message from this node
unfoldable pub message_to : List ℕ → List ℕ → Option Ends
message_to origin text =
    option_and_then (λ to. option_map (λ user. record { to = to; user = user; origin = origin })
    (name_in (behind (behind text)))) (named (codes "to") text)

-- of a message: `from NODE to NODE USER`
unfoldable pub message_ends : List ℕ → Option Ends
message_ends text = option_and_then (λ origin. message_to origin (behind (behind text))) (named (codes "from") text)

-- `to NODE`, from this user at this node
unfoldable pub command_to : List ℕ → List ℕ → List ℕ → Option Ends
command_to origin user text =
    cond (bytes_eq (first_word text) (codes "to"))
    (option_map (λ to. record { to = to; user = user; origin = origin }) (name_in (behind text))) None

unfoldable pub command_from : List ℕ → List ℕ → Option Ends
command_from origin text = option_and_then (λ user. command_to origin user (behind text)) (name_in (first_word text))

-- of a command: `from NODE USER to NODE`
unfoldable pub command_ends : List ℕ → Option Ends
command_ends text = option_and_then (λ origin. command_from origin (behind (behind text))) (named (codes "from") text)

abbrev pub with_text : ℕ → Ends → Result (List ℕ) Reason → Result Statement Reason
with_text flag ends (Ok text) = Ok (says.Message (message_between flag ends text))
with_text flag ends (Err reason) = Err reason

-- a colon and a blank part the ends and the text
abbrev pub with_ends : ℕ → Reason → Option Ends → List ℕ → Result Statement Reason
with_ends flag absent None text = Err absent
with_ends flag absent (Some ends) text =
    cond (length (first_word text) == 0) (with_text flag ends (bytes_of_text 148 (behind text))) (Err absent)

unfoldable pub nodal_statement : ℕ → Reason → Option Ends → List ℕ → Result Statement Reason
nodal_statement flag absent ends text = with_ends flag absent ends text

-- ---- all of them

unfoldable pub other_statement : List ℕ → List ℕ → Result Statement Reason
other_statement verb text =
    cond (bytes_eq verb (codes "sign")) (sign_statement text)
    (cond (bytes_eq verb (codes "answer")) (sign_on_statement 0xd1 text)
    (cond (bytes_eq verb (codes "message"))
    (nodal_statement 0x20 NoMessage (message_ends (front 58 text)) (back 58 text))
    (cond (bytes_eq verb (codes "command"))
    (nodal_statement 0xa0 NoCommand (command_ends (front 58 text)) (back 58 text))
    (Err NoSuchWords))))

abbrev pub with_words : Option ControlRcb → List ℕ → List ℕ → Result Statement Reason
with_words (Some rcb) verb text = request rcb text
with_words None verb text = other_statement verb text

unfoldable pub statement_in : List ℕ → Result Statement Reason
statement_in text =
    cond (length (behind text) == 0) (alone (first_word text))
    (with_words (control_in (first_word text)) (first_word text) (behind text))
