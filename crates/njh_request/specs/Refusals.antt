-- What an operator is told of a refusal: a status of HTTP, and a sentence that names what is wrong.
use Rattle.std.specs.Prelude.{ℕ, List, ◌++◌, codes, Option, Some, None}
use Rattle.std.specs.Fmt.{decimal}
use Rattle.njh_ebcdic.specs.Characters.{shown_text}
use Rattle.njh_ebcdic.specs.Names.{without_end_blanks}
use Rattle.njh_header.specs.FileNames.{FileName}
use Rattle.njh_request.specs.Members.{name_of}
use Rattle.njh_request.specs.Quotes.{shown_quote}
use Rattle.njh_request.specs.declared.member.Member.{Member}
use Rattle.njh_request.specs.declared.member.Member.TheVariants as member
use Rattle.njh_request.specs.declared.methods.Methods.{Methods}
use Rattle.njh_request.specs.declared.methods.Methods.TheVariants.{Get, Post, Put}
use Rattle.njh_request.specs.declared.refusal.RequestRefusal.{RequestRefusal}
use Rattle.njh_request.specs.declared.refusal.RequestRefusal.TheVariants.{NoResource, NoCustomer, NoLine, BadMethod}
use Rattle.njh_request.specs.declared.refusal.RequestRefusal.TheVariants.{BadPlace, NoPlace, NotJson, UnknownMember}
use Rattle.njh_request.specs.declared.refusal.RequestRefusal.TheVariants.{RepeatedMember, MissingMember, BadMember}
use Rattle.njh_request.specs.declared.refusal.RequestRefusal.TheVariants.{NotACommand, NoOwner, NoFile, NoOrder}
use Rattle.njh_request.specs.declared.refusal.RequestRefusal.TheVariants.{NameTaken, TooLate, GiverGone, NoWay}
use Rattle.njh_request.specs.declared.refusal.RequestRefusal.TheVariants.{QueueFull, SeveralOwners, Busy, NotKept}
use Rattle.njh_request.specs.declared.refusal.RequestRefusal.TheVariants.{TooLong}
use Rattle.njh_request.specs.declared.order_key.OrderKey.{OrderKey}
use Rattle.njh_request.specs.declared.order_key.OrderKey.TheVariants.{Number, Name}

abbrev pub status_of : RequestRefusal → ℕ
status_of (NoResource path) = 404
status_of (NoCustomer name) = 404
status_of (NoLine name) = 404
status_of (BadMethod methods) = 405
status_of BadPlace = 400
status_of NoPlace = 400
status_of NotJson = 400
status_of (UnknownMember key) = 400
status_of (RepeatedMember m) = 400
status_of (MissingMember m) = 400
status_of (BadMember m) = 400
status_of NotACommand = 400
status_of NoOwner = 400
status_of (NoFile name) = 404
status_of (NoOrder key) = 404
status_of (NameTaken name) = 409
status_of TooLate = 410
status_of GiverGone = 410
status_of NoWay = 404
status_of QueueFull = 503
status_of SeveralOwners = 409
status_of Busy = 503
status_of NotKept = 500
status_of TooLong = 500

-- what the field Allow has (RFC 9110, 10.2.1)
abbrev pub allow_of : Methods → List ℕ
allow_of Get = codes "GET, HEAD"
allow_of Post = codes "POST"
allow_of Put = codes "PUT"

abbrev pub allowed_by : RequestRefusal → Option Methods
allowed_by (NoResource path) = None
allowed_by (NoCustomer name) = None
allowed_by (NoLine name) = None
allowed_by (BadMethod methods) = Some methods
allowed_by BadPlace = None
allowed_by NoPlace = None
allowed_by NotJson = None
allowed_by (UnknownMember key) = None
allowed_by (RepeatedMember m) = None
allowed_by (MissingMember m) = None
allowed_by (BadMember m) = None
allowed_by NotACommand = None
allowed_by NoOwner = None
allowed_by (NoFile name) = None
allowed_by (NoOrder key) = None
allowed_by (NameTaken name) = None
allowed_by TooLate = None
allowed_by GiverGone = None
allowed_by NoWay = None
allowed_by QueueFull = None
allowed_by SeveralOwners = None
allowed_by Busy = None
allowed_by NotKept = None
allowed_by TooLong = None

-- what a member has to be
abbrev pub rule_of : Member → List ℕ
rule_of member.Command = codes "1 to 148 characters that each have a byte in EBCDIC"
rule_of member.Owner = codes "written {\"node\": NODE, \"user\": USER}"
rule_of member.To = codes "written {\"node\": NODE, \"user\": USER}"
rule_of member.Text = codes "1 to 148 characters that each have a byte in EBCDIC"
rule_of member.State = codes "started or stopped"
rule_of member.WhenIdle = codes "true or false"
rule_of member.Node = codes "the name of a node"
rule_of member.Name = codes "a letter, and at most 31 letters, digits, -, . and _"
rule_of member.Until = codes "a second since the beginning of 1970"
rule_of member.By = codes "a text of 1 to 48 bytes"
rule_of member.File = codes "the name of a file from / on, of at most 1024 bytes"
rule_of member.User = codes "at most 8 characters that each have a byte in EBCDIC, or X'..' with bytes in hex"

-- 7, or anna-7
abbrev pub key_text : OrderKey → List ℕ
key_text (Number n) = decimal n
key_text (Name name) = shown_quote name

-- LYON.42
abbrev pub file_text : FileName → List ℕ
file_text name = shown_text (without_end_blanks name.node) ++ (codes "." ++ decimal name.number)

abbrev pub sentence_of : RequestRefusal → List ℕ
sentence_of (NoResource path) = codes "there is nothing at " ++ shown_quote path
sentence_of (NoCustomer name) = codes "no customer is called " ++ shown_quote name
sentence_of (NoLine name) = codes "no line is called " ++ shown_quote name
sentence_of (BadMethod methods) = codes "this is asked by " ++ allow_of methods
sentence_of BadPlace = codes "the place to go on from is written from=NUMBER"
sentence_of NoPlace = codes "behind this path nothing is to stand"
sentence_of NotJson = codes "the body isn't an object of JSON"
sentence_of (UnknownMember key) = codes "the body is to have no member " ++ shown_quote key
sentence_of (RepeatedMember m) = name_of m ++ codes " stands in the body twice"
sentence_of (MissingMember m) = name_of m ++ codes " is missing"
sentence_of (BadMember m) = name_of m ++ (codes " is " ++ rule_of m)
sentence_of NotACommand =
    codes "command is HOLD, RELEASE or CANCEL and a file, REROUTE, a file and a node, or LIST"
sentence_of NoOwner = codes "owner is missing: LIST is for the files of an owner"
sentence_of (NoFile name) = codes "the customer has no file " ++ file_text name
sentence_of (NoOrder key) = codes "no order " ++ (key_text key ++ codes " is remembered")
sentence_of (NameTaken name) = codes "another order is remembered as " ++ shown_quote name
sentence_of TooLate = codes "the order isn't carried out: it was too late for that"
sentence_of GiverGone = codes "the order isn't carried out: who gave it had gone"
sentence_of NoWay = codes "no line leads to this node"
sentence_of QueueFull = codes "64 messages wait on the line to this node"
sentence_of SeveralOwners = codes "owner is missing: files of this name have several"
sentence_of Busy = codes "a request is answered at a time: ask again"
sentence_of NotKept = codes "the order was carried out, but there was no memory for its replies"
sentence_of TooLong = codes "the answer has more than 65536 bytes"
