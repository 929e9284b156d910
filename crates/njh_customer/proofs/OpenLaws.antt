-- A customer's lines that are opened.
use Rattle.njh_customer.proofs.Words
use Words.{ℕ, List, [], map, Some, refl, ap, false≢true, IsTrue, Rest, Nothing, is_name, CustomerEntry, NamedLine}
use Words.{CustomerLine, config_of, password_in, idle_line}
use Rattle.std.proofs.Common.{◌≡◌, ◌∷◌}

pub password_in_name : (name : List ℕ) → IsTrue (is_name name) → password_in name ≡ Some name
password_in_name [] h = absurd (false≢true h)
password_in_name (b ∷ bytes) h = refl

pub rests_of_lines : (lines : List NamedLine) → map (λ line. Nothing) (map (λ l. l.entry) lines) ≡ map
    (λ l. Nothing) lines
rests_of_lines [] = refl
rests_of_lines (l ∷ ls) = ap (λ (rests : List Rest). Nothing ∷ rests) (rests_of_lines ls)

pub states_of_lines : (entry : CustomerEntry) (lines : List NamedLine) →
    map (λ line. idle_line (config_of entry line) line.streams) (map (λ l. l.entry) lines)
    ≡ map (λ l. idle_line (config_of entry l.entry) l.entry.streams) lines
states_of_lines entry [] = refl
states_of_lines entry (l ∷ ls) = ap (λ (states : List CustomerLine). idle_line
    (config_of entry l.entry) l.entry.streams ∷ states) (states_of_lines entry ls)
