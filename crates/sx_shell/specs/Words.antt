-- The words of a command.
use Rattle.std.specs.Prelude.{ℕ, ◌≡◌, ◌+◌, ◌*◌, ◌-◌, ◌==◌, ◌&&◌, nat_le, not, Bool, false, if◌then◌else◌, bytes_eq, List, [], ◌∷◌, length, get_or, fold, codes, Option, None, Some, option_map}
use Rattle.std.specs.Fmt.{decimal}
use Rattle.std.specs.Option.{option_and_then}
use Rattle.sx_shell.specs.declared.command.Target.{Target}
use Rattle.sx_shell.specs.declared.command.Target.TheVariants as targets
use Rattle.sx_shell.specs.declared.command.Target.TheVariants.{Still, Usage}
use Rattle.sx_shell.specs.declared.command.Wanted.{Wanted}
use Rattle.sx_shell.specs.declared.command.Wanted.TheVariants.{Live, Create, Show, Check}

-- The word begins with `-`, and has two bytes or more.
abbrev pub is_option : List ℕ → Bool
is_option [] = false
is_option (byte ∷ []) = false
is_option (byte ∷ next ∷ bytes) = byte == 45

-- The words behind a command, without the first `--`. There are none where an option stands before that.
abbrev pub plain_words : List (List ℕ) → Option (List (List ℕ))
plain_words [] = Some []
plain_words (word ∷ words) =
    if bytes_eq word (codes "--") then Some words else
    if is_option word then None else
    option_map (λ more. word ∷ more) (plain_words words)

-- what the digits are worth to the base 10
abbrev pub digits_value : List ℕ → ℕ
digits_value digits = fold (λ value digit. 10 * value + (digit - 48)) 0 digits

-- the number up to 2^32 - 1 that these are the decimal digits of, without sign or leading zero
abbrev pub number_of : List ℕ → Option ℕ
number_of digits =
    let value = digits_value digits in
    if nat_le value 4294967295 && bytes_eq digits (decimal value) then Some value else None

-- a name of 1 to 64 bytes
abbrev pub is_name : List ℕ → Bool
is_name name = nat_le 1 (length name) && nat_le (length name) 64

-- names of fields that a volume can be born with: they differ
abbrev pub are_names : List ℕ → List ℕ → Bool
are_names from to = is_name from && (is_name to && not (bytes_eq from to))

-- `live FILE`
abbrev pub live_words : List (List ℕ) → Option Wanted
live_words (file ∷ []) = Some (Live file)
live_words words = None

-- `check FILE`
abbrev pub check_words : List (List ℕ) → Option Wanted
check_words (file ∷ []) = Some (Check file)
check_words words = None

-- `show FILE REVISION`
abbrev pub show_words : List (List ℕ) → Option Wanted
show_words (file ∷ revision ∷ []) = option_map (λ number. Show file number) (number_of revision)
show_words words = None

-- a volume can be born with these: the window is 1, and the names are such
abbrev pub can_create : List ℕ → List ℕ → List ℕ → Bool
can_create window from to = bytes_eq window (codes "1") && are_names from to

-- `create FILE [WINDOW [FROM [TO]]]`
abbrev pub create_words : List (List ℕ) → Option Wanted
create_words [] = None
create_words (file ∷ more) =
    let window = get_or more 0 (codes "1") in
    let from = get_or more 1 (codes "validFrom") in
    let to = get_or more 2 (codes "validTo") in
    if nat_le (length more) 3 && can_create window from to then Some (Create file 1 from to) else None

-- what the command wants with the words behind it
abbrev pub command_words : List ℕ → List (List ℕ) → Option Wanted
command_words command words =
    if bytes_eq command (codes "live") then live_words words else
    if bytes_eq command (codes "create") then create_words words else
    if bytes_eq command (codes "show") then show_words words else
    if bytes_eq command (codes "check") then check_words words else
    None

-- What the words behind the program's name want, where they are a command.
abbrev pub wanted : List (List ℕ) → Option Wanted
wanted [] = None
wanted (command ∷ words) = option_and_then (command_words command) (plain_words words)

-- the command is `live`, and has one file
abbrev pub IsLive : List (List ℕ) → Type 0
IsLive words = (file : List ℕ) × (wanted words ≡ Some (Live file))

-- Which call runs it, and over which file.
abbrev pub target_of : Option Wanted → Target
target_of None = Usage
target_of (Some (Live file)) = targets.Live file
target_of (Some (Create file window from to)) = targets.Create file
target_of (Some (Show file revision)) = Still file
target_of (Some (Check file)) = Still file
