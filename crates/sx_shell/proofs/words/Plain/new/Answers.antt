use Rattle.std.proofs.Common.{◌≡◌, ◌∙◌, ℕ, ◌<◌, ◌≤◌, List, [], ◌∷◌, ◌++◌, ◌-◌, length-drop, length, take, drop, map, get_or, Bool, cond, String, Global, Option, Some, None, ap, sym, subst, arith}
use Rattle.std.proofs.lemmas.List.{drop-map, take-map, take_all}
use Rattle.std.specs.Str.{bytes_eq}
use Rattle.std.proofs.lemmas.List.{drop-map, take-map, take_all}
use Rattle.std.specs.String.{string_bytes}
use Rattle.sx_shell.proofs.Commands.{Behind, plain_found}
use Rattle.sx_shell.specs.Plain.{place_of_option}
use Rattle.sx_shell.specs.Words.{plain_words}
use Rattle.sx_shell.proofs.words.Plain.new.Goals as goal

abbrev texts : List (String Global) → List (List ℕ)
texts words = map string_bytes words

-- what is found at the place of the first option
found : (words front rest : List (String Global)) (place : ℕ) → place ≡ place_of_option (texts words) → front ≡ take place words → rest ≡ drop place words → Behind (texts front) (texts rest) (plain_words (texts words))
found words front rest place at front_is rest_is =
    let fronts : take (place_of_option (texts words)) (texts words) ≡ texts front = ap (λ (n : ℕ). take n (texts words)) (sym at) ∙ take-map string_bytes place words ∙ ap texts (sym front_is) in
    let rests : drop (place_of_option (texts words)) (texts words) ≡ texts rest = ap (λ (n : ℕ). drop n (texts words)) (sym at) ∙ drop-map string_bytes place words ∙ ap texts (sym rest_is) in
    subst (λ (f : List (List ℕ)). Behind f (texts rest) (plain_words (texts words))) fronts
    (subst (λ (r : List (List ℕ)). Behind (take (place_of_option (texts words)) (texts words)) r (plain_words (texts words))) rests (plain_found (texts words)))

none_left : (front rest : List (String Global)) (all : Option (List (List ℕ))) → length rest < 1 → Behind (texts front) (texts rest) all → all ≡ Some (texts front ++ texts rest)
none_left front [] all less is = is
none_left front (word ∷ rest) all less is = absurd (omega (arith, less))

one_left : (front rest : List (String Global)) (all : Option (List (List ℕ))) (word : String Global) (t : Bool) → 1 ≤ length rest → word ≡ get_or rest 0 word → t ≡ bytes_eq (string_bytes word) (45 ∷ 45 ∷ [])
    → Behind (texts front) (texts rest) all → all ≡ cond t (Some (texts front ++ texts (drop 1 rest))) None
one_left front [] all word t some is test behind = absurd (omega (arith, some))
one_left front (first ∷ rest) all word t some is test behind =
    behind ∙ ap (λ (b : Bool). cond b (Some (texts front ++ texts rest)) None) (ap (λ (w : String Global). bytes_eq (string_bytes w) (45 ∷ 45 ∷ [])) (sym is) ∙ sym test)

behind_first : (words : List (String Global)) → take (length words - 1) (drop 1 words) ≡ drop 1 words
behind_first words = let size = length-drop 1 words in take_all (length words - 1) (drop 1 words) (omega (arith, size))

pub returns-in-empty-clause-some : goal.returns-in-empty-clause-some
returns-in-empty-clause-some c =
    none_left c.split_at.result.0.now c.split_at.result.1.now _ c.in-empty.len_below
    (found c.args.words.now c.split_at.result.0.now c.split_at.result.1.now c.place_of_option.result c.place_of_option.ensures.place c.split_at.ensures.front c.split_at.ensures.back)

pub returns-then-eq-clause-some : goal.returns-then-eq-clause-some
returns-then-eq-clause-some c =
    one_left c.split_at.result.0.now c.split_at.result.1.now _ c.word-item.result _ c.in-len1-up.len_at_least c.word-item.is (sym c.if-eq.true ∙ c.eq.ensures ∙ ap (λ (w : List ℕ). bytes_eq w (45 ∷ 45 ∷ [])) c.as_str.ensures.value)
    (found c.args.words.now c.split_at.result.0.now c.split_at.result.1.now c.place_of_option.result c.place_of_option.ensures.place c.split_at.ensures.front c.split_at.ensures.back)
    ∙ ap (λ (back : List (String Global)). Some (texts c.split_at.result.0.now ++ texts back)) (sym (behind_first c.split_at.result.1.now))

pub returns-else-eq-clause-none : goal.returns-else-eq-clause-none
returns-else-eq-clause-none c =
    one_left c.split_at.result.0.now c.split_at.result.1.now _ c.word-item.result _ c.in-len1-up.len_at_least c.word-item.is (sym c.if-eq.false ∙ c.eq.ensures ∙ ap (λ (w : List ℕ). bytes_eq w (45 ∷ 45 ∷ [])) c.as_str.ensures.value)
    (found c.args.words.now c.split_at.result.0.now c.split_at.result.1.now c.place_of_option.result c.place_of_option.ensures.place c.split_at.ensures.front c.split_at.ensures.back)
