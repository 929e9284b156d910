-- The sign-ons of a session (IBM SC23-0070): I of the end that calls, J of the one that answers.
use Rattle.std.specs.Prelude.{ℕ, Bool, true, List, [], ◌∷◌, Option, Some, None, Result, Ok, Err, ◌==◌, nat_le, cond}
use Rattle.std.specs.Prelude.{bytes_eq}
use Rattle.std.specs.Borrow.{Bor}
use Rattle.njh_block.specs.Blocks.{General, text_of}
use Rattle.njh_header.specs.SignOns.{SignOn, sign_on, sign_on_bytes}
use Rattle.njh_line.specs.declared.config.Config.{Config}
use Rattle.njh_line.specs.declared.opening.Opening.{Opening}
use Rattle.njh_line.specs.declared.opening.Opening.TheVariants.{Initial, Response}
use Rattle.njh_line.specs.declared.refusal.Refusal.{Refusal}
use Rattle.njh_line.specs.declared.refusal.Refusal.TheVariants.{NoSignOn, Unreadable, Node, Size, Password}
use Rattle.njh_line.specs.Sessions.{nothing_suspended}

abbrev pub srcb_of : Opening → ℕ
srcb_of Initial = 0xc9
srcb_of Response = 0xd1

-- a line without a password takes any
abbrev pub is_password : Option (List ℕ) → List ℕ → Bool
is_password None given = true
is_password (Some password) given = bytes_eq given password

-- a sign-on that fits a line, or of node, size and password the first that doesn't
abbrev pub fitted : SignOn → Config → Result SignOn Refusal
fitted s line =
    cond (bytes_eq s.node line.node)
    (cond (nat_le 300 s.block) (cond (is_password line.password s.password) (Ok s) (Err Password)) (Err (Size s.block)))
    (Err (Node s.node))

-- a block's first record where it is a general one: its SRCB and its bytes
abbrev pub First : Type 0
First = Option (ℕ × List ℕ)

-- one whose bytes are lent
abbrev pub shown_first : Option (ℕ × Bor (List ℕ)) → First
shown_first None = None
shown_first (Some x) = Some (x.0, x.1.now)

-- the sign-on of a kind, where it reads and fits; or why it is refused
abbrev pub fitting : Opening → Config → First → Result SignOn Refusal
fitting kind line None = Err NoSignOn
fitting kind line (Some x) =
    cond (x.0 == srcb_of kind) (elim (sign_on x.1) [ Ok s ↦ fitted s line | Err e ↦ Err Unreadable ]) (Err NoSignOn)

-- eight blanks where a line has no password
abbrev pub password_field : Option (List ℕ) → List ℕ
password_field None = 0x40 ∷ 0x40 ∷ 0x40 ∷ 0x40 ∷ 0x40 ∷ 0x40 ∷ 0x40 ∷ 0x40 ∷ []
password_field (Some password) = password

-- the sign-on that the hub sends
abbrev pub own_sign_on : Config → SignOn
own_sign_on line = record { node = line.hub; block = line.block; password = password_field line.password }

-- the text of the I or the J block: a sign-on alone, which sets the count to 0 and suspends nothing
abbrev pub opening : Opening → Config → List ℕ
opening kind line = text_of 0xa0 nothing_suspended (General (srcb_of kind) (sign_on_bytes (own_sign_on line)) ∷ [])
