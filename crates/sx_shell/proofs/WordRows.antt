-- Words that are commands, and words that are none.
use Rattle.std.proofs.Common.{◌≡◌, List, [], ◌∷◌, codes, ℕ, if◌then◌else◌, Option, None, Some, option_map, refl, ap, arith}
use Rattle.std.proofs.lemmas.Fmt.{decimal_digit}
use Rattle.std.specs.Fmt.{decimal}
use Rattle.std.specs.Str.{bytes_eq}
use Rattle.sx_shell.specs.Words.{target_of, wanted}
use Rattle.sx_shell.specs.declared.command.Target.TheVariants.{Still, Usage}
use Rattle.sx_shell.specs.declared.command.Wanted.{Wanted}
use Rattle.sx_shell.specs.declared.command.Wanted.TheVariants.{Live, Create, Show, Check}

-- a revision of this value is shown, where these are its digits
abbrev shown : List ℕ → ℕ → List ℕ → Option Wanted
shown word value digits = option_map (λ (number : ℕ). Show (codes "f") number) (if bytes_eq word digits then Some value else None)

zero_digit : decimal 0 ≡ codes "0"
zero_digit = decimal_digit 0 (omega arith)

one_digit : (word : List ℕ) → shown word 1 (decimal 1) ≡ shown word 1 (codes "1")
one_digit word = ap (λ (digits : List ℕ). shown word 1 digits) (decimal_digit 1 (omega arith))

no_word : wanted [] ≡ None
no_word = refl

no_file : wanted (codes "live" ∷ []) ≡ None
no_file = refl

option_as_file : wanted (codes "live" ∷ codes "-x" ∷ []) ≡ None
option_as_file = refl

other_window : wanted (codes "create" ∷ codes "f" ∷ codes "9" ∷ []) ≡ None
other_window = refl

names_that_are_equal : wanted (codes "create" ∷ codes "f" ∷ codes "2" ∷ codes "a" ∷ codes "a" ∷ []) ≡ None
names_that_are_equal = refl

leading_zero : wanted (codes "show" ∷ codes "f" ∷ codes "01" ∷ []) ≡ None
leading_zero = one_digit (codes "01")

no_command : wanted (codes "help" ∷ []) ≡ None
no_command = refl

file_behind_dashes : wanted (codes "live" ∷ codes "--" ∷ codes "-x" ∷ []) ≡ Some (Live (codes "-x"))
file_behind_dashes = refl

file_of_one_dash : wanted (codes "live" ∷ codes "-" ∷ []) ≡ Some (Live (codes "-"))
file_of_one_dash = refl

second_dashes : wanted (codes "check" ∷ codes "--" ∷ codes "--" ∷ []) ≡ Some (Check (codes "--"))
second_dashes = refl

dashes_first : wanted (codes "--" ∷ codes "live" ∷ codes "f" ∷ []) ≡ None
dashes_first = refl

asks_for_help : wanted (codes "--help" ∷ []) ≡ None
asks_for_help = refl

two_files : wanted (codes "live" ∷ codes "f" ∷ codes "g" ∷ []) ≡ None
two_files = refl

defaults : wanted (codes "create" ∷ codes "f" ∷ []) ≡ Some (Create (codes "f") 1 (codes "validFrom") (codes "validTo"))
defaults = refl

all_words : wanted (codes "create" ∷ codes "f" ∷ codes "1" ∷ codes "a" ∷ codes "b" ∷ []) ≡ Some (Create (codes "f") 1 (codes "a") (codes "b"))
all_words = refl

default_that_is_equal : wanted (codes "create" ∷ codes "f" ∷ codes "1" ∷ codes "validTo" ∷ []) ≡ None
default_that_is_equal = refl

empty_name : wanted (codes "create" ∷ codes "f" ∷ codes "1" ∷ [] ∷ []) ≡ None
empty_name = refl

one_word_more : wanted (codes "create" ∷ codes "f" ∷ codes "1" ∷ codes "a" ∷ codes "b" ∷ codes "c" ∷ []) ≡ None
one_word_more = refl

revision_one : wanted (codes "show" ∷ codes "f" ∷ codes "1" ∷ []) ≡ Some (Show (codes "f") 1)
revision_one = one_digit (codes "1")

revision_zero : wanted (codes "show" ∷ codes "f" ∷ codes "0" ∷ []) ≡ Some (Show (codes "f") 0)
revision_zero = ap (λ (digits : List ℕ). shown (codes "0") 0 digits) zero_digit

revision_too_great : wanted (codes "show" ∷ codes "f" ∷ codes "4294967296" ∷ []) ≡ None
revision_too_great = refl

revision_with_sign : wanted (codes "show" ∷ codes "f" ∷ codes "+1" ∷ []) ≡ None
revision_with_sign = one_digit (codes "+1")

still : target_of (wanted (codes "check" ∷ codes "f" ∷ [])) ≡ Still (codes "f")
still = refl

usage : target_of (wanted (codes "check" ∷ [])) ≡ Usage
usage = refl
