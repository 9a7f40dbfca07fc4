-- What stands at the front of a text is one.
use Rattle.std.proofs.Common.{◌≡◌, ◌∙◌, ℕ, ◌<◌, ◌^◌, List, ◌∷◌, ◌++◌, ap, sym, subst, arith}
use Rattle.std.specs.Prelude.{codes}
use Rattle.std.specs.Fmt.{decimal}
use Rattle.std.proofs.lemmas.Bool.{false≢true}
use Rattle.std.proofs.lemmas.Fmt.{decimal_injective}
use Rattle.std.proofs.lemmas.List.{append_cancel_left}
use Rattle.std.proofs.lemmas.Slice.Eq.{bytes_eq-Decides}
use Rattle.sx_run.specs.Spelling.{Heads, HeadsNumbered, HeadsPlace, IsNumbered, SpellsNumbered, axis_word, place_word}
use Rattle.sx_script.specs.Commands.{IsAxis}
use Rattle.sx_script.specs.Words.{BeginsNumbered, BeginsPlace, front_of}
use Rattle.sx_script.proofs.Fronts.{Lacks, front_of-append}
use Rattle.sx_script.proofs.Numbers.{Lacks-decimal}
use Rattle.sx_tree.specs.declared.edit.Place.{Place}
use Rattle.sx_tree.specs.declared.edit.Place.TheVariants as places
use Rattle.sx_tree.specs.declared.query.Axis.{Axis}
use Rattle.sx_tree.specs.declared.query.Axis.TheVariants as axes

-- ---- behind a word

pub heads_one : (text word a b : List ℕ) → Heads text word a → Heads text word b → a ≡ b
heads_one text word a b one other = let same : 32 ∷ a ≡ 32 ∷ b = append_cancel_left word (32 ∷ a) (32 ∷ b) (sym one ∙ other) in cc

pub heads_rest : (text word rest left : List ℕ) → text ≡ word ++ rest → Heads text word left → rest ≡ 32 ∷ left
heads_rest text word rest left is heads = append_cancel_left word rest (32 ∷ left) (sym is ∙ heads)

-- ---- a number

pub number_one : (word : List ℕ) (n m : ℕ) → n < 2 ^ 32 → word ≡ decimal n → IsNumbered word m → n ≡ m
number_one word n m below is numbered = decimal_injective n m (omega (arith, below)) (omega (arith, numbered.0)) (sym is ∙ numbered.1)

pub numbered_word : (text word digits : List ℕ) (n : ℕ) → Heads text word digits → SpellsNumbered text word n → IsNumbered digits n
numbered_word text word digits n heads spells = subst (λ (d : List ℕ). IsNumbered d n) (heads_one text word spells.0 digits spells.1 heads) spells.2

-- the number is the bytes before the first space
pub number_front : (bytes : List ℕ) (n : ℕ) (rest : List ℕ) (begins : BeginsNumbered bytes n rest) → front_of 32 bytes ≡ begins.0
number_front bytes n rest begins =
    ap (front_of 32) begins.2
    ∙ front_of-append 32 begins.0 rest (subst (λ (w : List ℕ). Lacks 32 w) (sym begins.1.1) (Lacks-decimal 32 n (λ digit small. omega (arith, small)) (omega (arith, begins.1.0))))

-- the parts that the front tells
pub number_parts : (bytes digits : List ℕ) (n : ℕ) (rest : List ℕ) → digits ≡ front_of 32 bytes → BeginsNumbered bytes n rest → IsNumbered digits n × Heads bytes digits rest
number_parts bytes digits n rest is begins =
    let same : begins.0 ≡ digits = sym (number_front bytes n rest begins) ∙ sym is in
    (subst (λ (d : List ℕ). IsNumbered d n) same begins.1, subst (λ (d : List ℕ). Heads bytes d rest) same begins.2)

begins_one : (bytes : List ℕ) (n m : ℕ) (rest left : List ℕ) → BeginsNumbered bytes n rest → BeginsNumbered bytes m left → (n ≡ m) × (rest ≡ left)
begins_one bytes n m rest left one other =
    let parts = number_parts bytes one.0 m left (sym (number_front bytes n rest one)) other in
    (number_one one.0 n m (omega (arith, one.1.0)) one.1.1 parts.0, heads_one bytes one.0 rest left one.2 parts.1)

pub numbered_behind : (text word bytes : List ℕ) (n : ℕ) (rest : List ℕ) → Heads text word bytes → HeadsNumbered text word n rest → BeginsNumbered bytes n rest
numbered_behind text word bytes n rest heads numbered =
    subst (λ (b : List ℕ). BeginsNumbered b n rest) (heads_one text word numbered.0 bytes numbered.2 heads) (numbered.1, numbered.3, numbered.4)

pub numbered_one : (text word : List ℕ) (n m : ℕ) (rest left : List ℕ) → HeadsNumbered text word n rest → HeadsNumbered text word m left → (n ≡ m) × (rest ≡ left)
numbered_one text word n m rest left one other =
    begins_one one.0 n m rest left (one.1, one.3, one.4) (numbered_behind text word one.0 m left one.2 other)

-- ---- a place

place_front : (bytes : List ℕ) (place : Place) (rest : List ℕ) → BeginsPlace bytes place rest → front_of 32 bytes ≡ place_word place
place_front bytes (places.First k) rest begins = ap (front_of 32) begins.2
place_front bytes (places.Last k) rest begins = ap (front_of 32) begins.2
place_front bytes (places.Before k) rest begins = ap (front_of 32) begins.2
place_front bytes (places.After k) rest begins = ap (front_of 32) begins.2

begins_place_one : (bytes : List ℕ) (p q : Place) (rest left : List ℕ) → BeginsPlace bytes p rest → BeginsPlace bytes q left → (p ≡ q) × (rest ≡ left)
begins_place_one bytes (places.First k) (places.First m) rest left one other =
    let same = numbered_one bytes (codes "first") k m rest left one other in (ap places.First same.0, same.1)
begins_place_one bytes (places.Last k) (places.Last m) rest left one other =
    let same = numbered_one bytes (codes "last") k m rest left one other in (ap places.Last same.0, same.1)
begins_place_one bytes (places.Before k) (places.Before m) rest left one other =
    let same = numbered_one bytes (codes "before") k m rest left one other in (ap places.Before same.0, same.1)
begins_place_one bytes (places.After k) (places.After m) rest left one other =
    let same = numbered_one bytes (codes "after") k m rest left one other in (ap places.After same.0, same.1)
begins_place_one bytes p q rest left one other =
    absurd (false≢true ((bytes_eq-Decides (place_word p) (place_word q)).1 (sym (place_front bytes p rest one) ∙ place_front bytes q left other)))

pub place_behind : (text word bytes : List ℕ) (place : Place) (rest : List ℕ) → Heads text word bytes → HeadsPlace text word place rest → BeginsPlace bytes place rest
place_behind text word bytes place rest heads placed =
    subst (λ (b : List ℕ). BeginsPlace b place rest) (heads_one text word placed.0 bytes placed.1 heads) placed.2

pub place_one : (text word : List ℕ) (p q : Place) (rest left : List ℕ) → HeadsPlace text word p rest → HeadsPlace text word q left → (p ≡ q) × (rest ≡ left)
place_one text word p q rest left one other = begins_place_one one.0 p q rest left one.2 (place_behind text word one.0 q left one.1 other)

-- no place begins the bytes
pub no_place : (bytes : List ℕ) → ((k : ℕ) (rest : List ℕ) → HeadsNumbered bytes (codes "first") k rest → ⊥) → ((k : ℕ) (rest : List ℕ) → HeadsNumbered bytes (codes "last") k rest → ⊥)
    → ((k : ℕ) (rest : List ℕ) → HeadsNumbered bytes (codes "before") k rest → ⊥) → ((k : ℕ) (rest : List ℕ) → HeadsNumbered bytes (codes "after") k rest → ⊥)
    → (place : Place) (rest : List ℕ) → BeginsPlace bytes place rest → ⊥
no_place bytes first last before after (places.First k) rest begins = first k rest begins
no_place bytes first last before after (places.Last k) rest begins = last k rest begins
no_place bytes first last before after (places.Before k) rest begins = before k rest begins
no_place bytes first last before after (places.After k) rest begins = after k rest begins

-- ---- an axis

axis_front : (words : List ℕ) (a : Axis) (k : ℕ) → SpellsNumbered words (axis_word a) k → front_of 32 words ≡ axis_word a
axis_front words axes.Child k spells = ap (front_of 32) spells.1
axis_front words axes.Descendant k spells = ap (front_of 32) spells.1
axis_front words axes.Ancestor k spells = ap (front_of 32) spells.1
axis_front words axes.Following k spells = ap (front_of 32) spells.1
axis_front words axes.Preceding k spells = ap (front_of 32) spells.1
axis_front words axes.FollowingSibling k spells = ap (front_of 32) spells.1
axis_front words axes.PrecedingSibling k spells = ap (front_of 32) spells.1

-- an axis by the words that the text has
pub axis_word_is : (text words : List ℕ) (a : Axis) (k : ℕ) → Heads text (codes "axis") words → IsAxis text a k → front_of 32 words ≡ axis_word a
axis_word_is text words a k heads is =
    axis_front words a k (subst (λ (w : List ℕ). SpellsNumbered w (axis_word a) k) (heads_one text (codes "axis") is.0 words is.1 heads) is.2)

pub axis_number : (text words word : List ℕ) (a : Axis) (k : ℕ) → Heads text (codes "axis") words → word ≡ front_of 32 words → IsAxis text a k → SpellsNumbered words word k
axis_number text words word a k heads front is =
    subst (λ (w : List ℕ). SpellsNumbered words w k) (sym (front ∙ axis_word_is text words a k heads is))
    (subst (λ (w : List ℕ). SpellsNumbered w (axis_word a) k) (heads_one text (codes "axis") is.0 words is.1 heads) is.2)
