-- The words of a line, with one space between each and the next, and what they name.
use Rattle.std.specs.Prelude.{◌≡◌, ◌==◌, ◌≤◌, ℕ, Bool, not, ◌&&◌, nat_le, if◌then◌else◌, List, [], ◌∷◌, ◌++◌}
use Rattle.std.specs.Prelude.{length, min, position, slice_get, bytes_eq, IsTrue, Option, Some, None, option_map}
use Rattle.std.specs.Prelude.{option_and_then}
use Rattle.std.specs.List.{list_all}
use Rattle.std.specs.Result.{result_ok}
use Rattle.std.specs.Char.{is_ascii_digit}
use Rattle.packet_codec.specs.Address.{address_of}
use Rattle.x28_commands.specs.Numbers.{decimal}
use Rattle.net_files.specs.Cuts.{before, behind}

-- two texts with one space between them
infixr 20 ◌␣◌
abbrev pub ◌␣◌ : List ℕ → List ℕ → List ℕ
word ␣ rest = word ++ 32 ∷ rest

-- no space is in it
abbrev pub has_no_space : List ℕ → Bool
has_no_space word = list_all (λ octet. not (octet == 32)) word

-- the word says the number, of at most 65,535
pub record IsNumber (word : List ℕ) (n : ℕ) : Type 0 where
  pub some : 1 ≤ length word
  pub digits : IsTrue (list_all is_ascii_digit word)
  pub value : decimal word ≡ n
  pub most : n ≤ 65535

-- the word is the name of the node of this place, which is the first of that name
pub record IsNode (names : List (List ℕ)) (word : List ℕ) (node : ℕ) : Type 0 where
  pub one_word : IsTrue (has_no_space word)
  pub there : slice_get names node ≡ Some word
  pub first : (place : ℕ) → slice_get names place ≡ Some word → node ≤ place

-- ---- the same, read

abbrev pub number_of : List ℕ → Option ℕ
number_of word =
    if nat_le 1 (length word) && list_all is_ascii_digit word && nat_le (decimal word) 65535 then Some (decimal word)
    else None

abbrev pub node_of : List (List ℕ) → List ℕ → Option ℕ
node_of names word = position (λ name. bytes_eq name word) names

infixl 10 ◌>>=◌
abbrev pub ◌>>=◌ : {A B : Type 0} → Option A → (A → Option B) → Option B
o >>= f = option_and_then f o

-- what is left of a line: nothing behind its last word
abbrev pub Left : Type 0
Left = Option (List ℕ)

-- the next word, and what is left behind it
abbrev pub next_word : Left → Option (List ℕ × Left)
next_word None = None
next_word (Some line) = Some (before 32 line, behind 32 line)

-- the next word, as what it names
abbrev pub named : {A : Type 0} → (List ℕ → Option A) → Option (List ℕ × Left) → Option (A × Left)
named read None = None
named read (Some word) = option_map (λ x. (x, word.1)) (read word.0)

abbrev pub number_at : Left → Option (ℕ × Left)
number_at left = named number_of (next_word left)

abbrev pub node_at : List (List ℕ) → Left → Option (ℕ × Left)
node_at names left = named (node_of names) (next_word left)

abbrev pub address_at : Left → Option (List ℕ × Left)
address_at left = named (λ word. result_ok (address_of word)) (next_word left)

-- beyond 255 the number of a timer's channel or terminal is 255
abbrev pub timer_number_at : Left → Option (ℕ × Left)
timer_number_at left = named (λ word. option_map (λ n. min n 255) (number_of word)) (next_word left)

-- all that is left
abbrev pub text_of : Left → List ℕ
text_of None = []
text_of (Some text) = text

-- that nothing is left
abbrev pub ended : {A : Type 0} → Left → A → Option A
ended None x = Some x
ended (Some rest) x = None

-- what was read last, where nothing is left behind it
abbrev pub last : {A : Type 0} → Option (A × Left) → Option A
last None = None
last (Some read) = ended read.1 read.0
