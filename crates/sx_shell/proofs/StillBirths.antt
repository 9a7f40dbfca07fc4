-- Words that want a volume to be made give it a birth.
use Rattle.std.proofs.Common.{◌≡◌, ◌∙◌, ℕ, ◌≤◌, ◌&&◌, inl, inr, nat_le, Bool, true, false, not, cond, List, [], ◌∷◌, length, codes, get_or, Option, None, Some, option_map, refl, sym, arith}
use Rattle.std.proofs.lemmas.Bool.{false≢true}
use Rattle.std.proofs.lemmas.Bool.Decides.{leb_tells}
use Rattle.std.proofs.lemmas.Slice.Eq.{bytes_eq-Decides}
use Rattle.std.specs.Option.{option_and_then}
use Rattle.std.specs.Str.{bytes_eq}
use Rattle.sx_log.specs.Creating.{CanBeBorn, IsShort}
use Rattle.sx_shell.specs.Words.{are_names, can_create, check_words, command_words, create_words, is_name, live_words, number_of, plain_words, show_words, wanted}
use Rattle.sx_shell.specs.declared.command.Wanted.{Wanted}
use Rattle.sx_shell.specs.declared.command.Wanted.TheVariants.{Live, Create, Show, Check}

-- what is wanted can be done: a volume to be made can be born
abbrev pub GivesBirth : Option Wanted → Type 0
GivesBirth None = Unit {0}
GivesBirth (Some (Live file)) = Unit {0}
GivesBirth (Some (Create file window from to)) = CanBeBorn (record { window = window; from = from; to = to })
GivesBirth (Some (Show file revision)) = Unit {0}
GivesBirth (Some (Check file)) = Unit {0}

both : (s t : Bool) → s && t ≡ true → (s ≡ true) × (t ≡ true)
both true t is = (refl, is)
both false t is = absurd (false≢true is)

not-false : (t : Bool) → not t ≡ true → t ≡ false
not-false true is = absurd (false≢true is)
not-false false is = refl

at_most : (a b : ℕ) → nat_le a b ≡ true → a ≤ b
at_most a b is = elim (leb_tells a b) [ inl lt ↦ lt.1 | inr over ↦ absurd (false≢true (sym over.0 ∙ is)) ]

short : (name : List ℕ) → is_name name ≡ true → IsShort name
short name is =
    let parts = both (nat_le 1 (length name)) (nat_le (length name) 64) is in
    record { least = at_most 1 (length name) parts.0; most = at_most (length name) 64 parts.1 }

-- names that are such make a birth with the window 1
can-be : (window from to : List ℕ) → can_create window from to ≡ true → CanBeBorn (record { window = 1; from = from; to = to })
can-be window from to is =
    let names = (both (bytes_eq window (codes "1")) (are_names from to) is).1 in
    let first = both (is_name from) (is_name to && not (bytes_eq from to)) names in
    let second = both (is_name to) (not (bytes_eq from to)) first.1 in
    record {
      least = omega arith;
      most = omega arith;
      from = short from first.0;
      to = short to second.0;
      differ = λ same. false≢true (sym (not-false (bytes_eq from to) second.1) ∙ (bytes_eq-Decides from to).1 same);
    }

create-births : (words : List (List ℕ)) → GivesBirth (create_words words)
create-births [] = tt
create-births (file ∷ more) =
    by (get_or more 0 (codes "1")) (get_or more 1 (codes "validFrom")) (get_or more 2 (codes "validTo")) (nat_le (length more) 3)
    (can_create (get_or more 0 (codes "1")) (get_or more 1 (codes "validFrom")) (get_or more 2 (codes "validTo"))) refl
  where
    by : (window from to : List ℕ) (few can : Bool) → can_create window from to ≡ can → GivesBirth (cond (few && can) (Some (Create file 1 from to)) None)
    by window from to true true is = can-be window from to is
    by window from to true false is = tt
    by window from to false can is = tt

live-births : (words : List (List ℕ)) → GivesBirth (live_words words)
live-births [] = tt
live-births (file ∷ []) = tt
live-births (file ∷ other ∷ words) = tt

check-births : (words : List (List ℕ)) → GivesBirth (check_words words)
check-births [] = tt
check-births (file ∷ []) = tt
check-births (file ∷ other ∷ words) = tt

show-births : (words : List (List ℕ)) → GivesBirth (show_words words)
show-births [] = tt
show-births (file ∷ []) = tt
show-births (file ∷ revision ∷ []) = by (number_of revision)
  where
    by : (o : Option ℕ) → GivesBirth (option_map (λ (number : ℕ). Show file number) o)
    by None = tt
    by (Some number) = tt
show-births (file ∷ revision ∷ other ∷ words) = tt

command-births : (command : List ℕ) (words : List (List ℕ)) → GivesBirth (command_words command words)
command-births command words =
    by (bytes_eq command (codes "live")) (bytes_eq command (codes "create")) (bytes_eq command (codes "show")) (bytes_eq command (codes "check"))
  where
    by : (live create show check : Bool)
        → GivesBirth (cond live (live_words words) (cond create (create_words words) (cond show (show_words words) (cond check (check_words words) None))))
    by true create show check = live-births words
    by false true show check = create-births words
    by false false true check = show-births words
    by false false false true = check-births words
    by false false false false = tt

pub wanted-births : (words : List (List ℕ)) → GivesBirth (wanted words)
wanted-births [] = tt
wanted-births (command ∷ words) = by (plain_words words)
  where
    by : (o : Option (List (List ℕ))) → GivesBirth (option_and_then (command_words command) o)
    by None = tt
    by (Some plain) = command-births command plain
