-- The texts that are given are those that came.
use Rattle.std.specs.Prelude.{◌≡◌, ℕ, List, ◌++◌, filter_map, Option, Some, None, Ok, Err}
use Rattle.njh_tcp.specs.Carried.{Carried, Enquiry, Ack0, Text, carried_by}
use Rattle.njh_tcp.specs.Blocks.{Ttb, Partial, Splits, Item, Whole, Wrong, items_of}
use Rattle.njh_tcp.specs.Hearing.{Outcome}
use Rattle.njh_tcp.specs.Reading.{Rest, Open, Shut, part_of, IsRight}

abbrev pub text_of : Option Carried → Option (List ℕ)
text_of (Some (Text text)) = Some text
text_of (Some Enquiry) = None
text_of (Some Ack0) = None
text_of None = None

abbrev pub text_in : Item → Option (List ℕ)
text_in (Whole held) = text_of (carried_by held)
text_in (Wrong fault) = None

abbrev pub text_given : Outcome → Option (List ℕ)
text_given (Ok carried) = text_of (Some carried)
text_given (Err fault) = None

-- the texts that are in TTRs, and those that are given, in order
abbrev pub texts_in : List Item → List (List ℕ)
texts_in items = filter_map text_in items

abbrev pub texts_given : List Outcome → List (List ℕ)
texts_given outcomes = filter_map text_given outcomes

-- While nothing is wrong, the texts are all that came. After a refusal they are those up to it.
abbrev pub AreThose : Partial → List (List ℕ) → List (List ℕ) → Rest → Type 0
AreThose partial those texts (Open contact part) = (texts ≡ those) × (part ≡ part_of partial) × IsRight partial
AreThose partial those texts (Shut fault) = (later : List (List ℕ)) × (those ≡ texts ++ later)

-- Of these bytes a reader has given these texts, whatever contact it took, and is left so.
pub record GivesTexts (bytes : List ℕ) (texts : List (List ℕ)) (rest : Rest) : Type 0 where
  pub ttbs : List Ttb
  pub partial : Partial
  pub splits : Splits bytes ttbs partial
  pub those : AreThose partial (texts_in (items_of ttbs partial)) texts rest
