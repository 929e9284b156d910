-- What is left after records, and words that are put one after the other.
use Rattle.std.proofs.Common.{◌≡◌, ℕ, zero, suc, List, ◌++◌, Some, None, refl, ap}
use Rattle.std.proofs.Common.{append_assoc, ◌∙◌}
use Rattle.njh_block.specs.Blocks.{first_record}
use Rattle.njh_decode.specs.Words.{label, field_words, number_words, user_words}
use Rattle.njh_decode.specs.Frames.{behind_record, left_within}

pub left-none : (k : ℕ) (bytes : List ℕ) → behind_record (first_record bytes) ≡ None → left_within k bytes ≡ bytes
left-none zero bytes is = refl
left-none (suc k) bytes is = rw (is, left_within) refl

pub left-some : (k : ℕ) (bytes rest : List ℕ) → behind_record (first_record bytes) ≡ Some rest
    → left_within (suc k) bytes ≡ left_within k rest
left-some k bytes rest is = rw (is, left_within) refl

-- two steps of two parts each, if the second part of each is another's
pub two_and_two : (done a b c d f g between after : List ℕ) → b ≡ f → d ≡ g → between ≡ done ++ a ++ b
    → after ≡ between ++ c ++ d → after ≡ done ++ (a ++ f ++ c ++ g)
two_and_two done a b c d f g between after same likewise first second =
    second ∙ ap (λ (x : List ℕ). x ++ c ++ d) first ∙ ap (λ (x : List ℕ). done ++ a ++ x ++ c ++ d) same
    ∙ ap (λ (x : List ℕ). done ++ a ++ f ++ c ++ x) likewise
    ∙ ap (λ (x : List ℕ). x ++ c ++ g) (append_assoc done a f)
    ∙ ap (λ (x : List ℕ). x ++ g) (append_assoc done (a ++ f) c) ∙ append_assoc done (a ++ f ++ c) g

pub same_user : (a b c d : List ℕ) → a ≡ c → b ≡ d → user_words a b ≡ user_words c d
same_user a b c d node user = ap (λ (x : List ℕ). user_words x b) node ∙ ap (λ (x : List ℕ). user_words c x) user

pub same_field : (a b : List ℕ) → a ≡ b → field_words a ≡ field_words b
same_field a b same = ap (λ (x : List ℕ). field_words x) same

pub same_number : (a b : ℕ) → a ≡ b → number_words a ≡ number_words b
same_number a b same = ap (λ (x : ℕ). number_words x) same

-- words, and the name of a fault
pub words_and_fault : (done words name told after : List ℕ) → told ≡ name → after ≡ done ++ words ++ label told
    → after ≡ done ++ (words ++ label name)
words_and_fault done words name told after same is =
    is ∙ ap (λ (x : List ℕ). done ++ words ++ label x) same ∙ append_assoc done words (label name)

-- two parts, one after the other
pub two_parts : (done a b after : List ℕ) → after ≡ done ++ a ++ b → after ≡ done ++ (a ++ b)
two_parts done a b after is = is ∙ append_assoc done a b
