-- A place behind white space.
use Rattle.std.proofs.Common.{◌≡◌, ℕ, inr, List, [], ◌∷◌, ◌++◌, ap, sym, ◌∙◌, subst, append_assoc}
use Rattle.sx_model.specs.Grammar.{AreBlanks, IsSolid, Led, NameThen, Skips}
use Rattle.sx_model.specs.Faults.{Next, NewName}
use Rattle.sx_model.proofs.FirstBytes.{Led-from}
use Rattle.sx_model.proofs.Tokens.{Marked}
use Rattle.sx_json.specs.Nested.{MarkThen, IsName}
use Rattle.sx_json.proofs.Skipping.{skips_none}

blanks_append : (xs ys : List ℕ) → AreBlanks xs → AreBlanks ys → AreBlanks (xs ++ ys)
blanks_append [] ys a b = b
blanks_append (x ∷ xs) ys a b = (a.0, blanks_append xs ys a.1 b)

pub next_skips : (P : List ℕ → Type 0) (bytes rest : List ℕ) → Skips bytes rest → Next P rest → Next P bytes
next_skips P bytes rest s n = (n.0, (s.0 ++ n.1.0, blanks_append s.0 n.1.0 s.1 n.1.1, s.2 ∙ ap (λ l. s.0 ++ l) n.1.2 ∙ sym (append_assoc s.0 n.1.0 n.0)), n.2, n.3)

pub next_here : (P : List ℕ → Type 0) (bytes : List ℕ) → IsSolid bytes → P bytes → Next P bytes
next_here P bytes solid p = (bytes, skips_none bytes, solid, p)

pub next_map : (P Q : List ℕ → Type 0) (bytes : List ℕ) → ((b : List ℕ) → P b → Q b) → Next P bytes → Next Q bytes
next_map P Q bytes f n = (n.0, n.1, n.2, f n.0 n.3)

led_blanks : (P : List ℕ → Type 0) (blanks rest : List ℕ) → AreBlanks blanks → Led P rest → Led P (blanks ++ rest)
led_blanks P [] rest all p = p
led_blanks P (b ∷ bs) rest all p = inr (all.0, led_blanks P bs rest all.1 p)

pub led_skips : (P : List ℕ → Type 0) (bytes rest : List ℕ) → Skips bytes rest → Led P rest → Led P bytes
led_skips P bytes rest s p = subst (Led P) (sym s.2) (led_blanks P s.0 rest s.1 p)

pub next_led : (P : List ℕ → Type 0) (bytes : List ℕ) → Next P bytes → Led P bytes
next_led P bytes n = led_skips P bytes n.0 n.1 (Led-from P n.0 n.3)

-- a byte, white space, and then what P says
abbrev Mark : ℕ → (List ℕ → Type 0) → List ℕ → Type 0
Mark byte P b = (rest : List ℕ) × (b ≡ byte ∷ rest) × Next P rest

mark_map : (byte : ℕ) (P Q : List ℕ → Type 0) (bytes : List ℕ) → ((b : List ℕ) → P b → Q b) → Next (Mark byte P) bytes → Next (Mark byte Q) bytes
mark_map byte P Q bytes f n = next_map (Mark byte P) (Mark byte Q) bytes (λ b q. (q.0, q.1, next_map P Q q.0 f q.2)) n

mark_led : (byte : ℕ) (P : List ℕ → Type 0) (bytes : List ℕ) → Next (Mark byte P) bytes → Led (Marked byte P) bytes
mark_led byte P bytes n = next_led (Marked byte P) bytes (next_map (Mark byte P) (Marked byte P) bytes (λ b q. (q.0, q.1, next_led P q.0 q.2)) n)

pub comma_then : (P : List ℕ → Type 0) (bytes rest : List ℕ) → MarkThen 44 bytes rest → P rest → Next (Mark 44 P) bytes
comma_then P bytes rest c p = mark_map 44 (λ d. d ≡ rest) P bytes (λ d is. subst P (sym is) p) c

pub comma_led : (P : List ℕ → Type 0) (bytes rest : List ℕ) → MarkThen 44 bytes rest → P rest → Led (Marked 44 P) bytes
comma_led P bytes rest c p = mark_led 44 P bytes (comma_then P bytes rest c p)

pub name_then : (names : List (List ℕ)) (name : List ℕ) (P : List ℕ → Type 0) (bytes rest : List ℕ) → IsName names name bytes rest → P rest → NewName names name P bytes
name_then names name P bytes rest n p = (n.0, n.1, n.2, n.3, n.4, mark_map 58 (λ d. d ≡ rest) P n.1 (λ d is. subst P (sym is) p) n.5)

pub name_led : (names : List (List ℕ)) (name : List ℕ) (P : List ℕ → Type 0) (bytes rest : List ℕ) → IsName names name bytes rest → P rest → NameThen name P bytes
name_led names name P bytes rest n p = let m = name_then names name P bytes rest n p in (m.0, m.1, m.2, m.3, mark_led 58 P m.1 m.5)
