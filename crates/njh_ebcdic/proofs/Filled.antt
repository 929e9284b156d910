-- Characters that are laid into a word one after another.
use Rattle.std.proofs.Common.{◌≡◌, ℕ, ◌+◌, ◌<◌, List, [], ◌∷◌, ◌++◌, length, take, set, get_or, sym, ap, ◌∙◌, arith}
use Rattle.std.specs.List.{enumerate_from}
use Rattle.std.proofs.lemmas.List.{take_more, take_more_set, take_all, length-set, length-map, get_or-map}
use Rattle.std.proofs.lemmas.List.FromFn.{length-enumerate_from, get_or-enumerate_from}
use Rattle.njh_ebcdic.specs.Characters.{byte_or_blank, bytes_or_blanks}

-- which character a turn of the loop has
pub record IsTurn (characters : List ℕ) (n place character : ℕ) : Type 0 where
  pub more : n < length characters
  pub there : place ≡ n
  pub that : character ≡ get_or characters n character

pub IsTurn-enumerated : (characters : List ℕ) (n place character : ℕ) → n < length (enumerate_from 0 characters)
    → ◌≡◌ {A = ℕ × ℕ} (place, character) (get_or (enumerate_from 0 characters) n (place, character))
    → IsTurn characters n place character
IsTurn-enumerated characters n place character within is =
    let more : n < length characters = omega (arith, length-enumerate_from 0 characters) in
    let same = is ∙ get_or-enumerate_from 0 characters n (place, character) more in
    let there : place ≡ 0 + n = ap (λ (item : ℕ × ℕ). item.0) same in
    record { more = more; there = omega (arith, there); that = ap (λ (item : ℕ × ℕ). item.1) same }

-- the first n bytes of the word are those of the first n characters
pub record IsFilledTo (characters word : List ℕ) (n : ℕ) : Type 0 where
  pub size : length word ≡ 8
  pub same : take n word ≡ take n (bytes_or_blanks characters)

pub IsFilledTo-more : (characters word : List ℕ) (n place character byte : ℕ) → IsTurn characters n place character
    → n < 8
    → byte ≡ byte_or_blank character → IsFilledTo characters word n
    → IsFilledTo characters (set word place byte) (n + 1)
IsFilledTo-more characters word n place character byte turn room is so_far =
    let fits : n < length word = omega (arith, so_far.size) in
    let more : n < length (bytes_or_blanks characters) =
    omega (arith, length-map characters byte_or_blank, turn.more) in
    let next : byte ≡ get_or (bytes_or_blanks characters) n 0 =
    is ∙ (ap byte_or_blank turn.that ∙ sym (get_or-map byte_or_blank characters n character 0 turn.more)) in
    rw turn.there (record {
      size = length-set word n byte ∙ so_far.size;
      same = take_more_set word n byte fits
          ∙ (ap (λ front. front ++ byte ∷ []) so_far.same
          ∙ (ap (λ last. take n (bytes_or_blanks characters) ++ last ∷ []) next
          ∙ sym (take_more (bytes_or_blanks characters) n 0 more)));
    })

pub IsFilledTo-all : (characters word : List ℕ) → IsFilledTo characters word (length characters)
    → take (length characters) word ≡ bytes_or_blanks characters
IsFilledTo-all characters word all =
    all.same ∙ take_all (length characters) (bytes_or_blanks characters)
    (omega (arith, length-map characters byte_or_blank))
