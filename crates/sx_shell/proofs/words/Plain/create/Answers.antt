use Rattle.std.proofs.Common.{◌≡◌, ◌∙◌, ℕ, List, length, codes, get_or, true, Some, Bor, slice_get, ap, sym, arith, ◌≤◌}
use Rattle.sx_shell.proofs.Commands.{create_is, create_not, word_or}
use Rattle.sx_shell.specs.Plain.{plain_of}
use Rattle.sx_shell.specs.Words.{can_create, create_words}
use Rattle.sx_shell.specs.declared.command.Wanted.TheVariants.{Create}
use Rattle.sx_shell.proofs.words.Plain.create.Goals as goal

created : (words : List (List ℕ)) (file window from to bytes first second : List ℕ) → slice_get words 0 ≡ Some file → length words ≤ 4
    → window ≡ get_or words 1 (codes "1") → from ≡ get_or words 2 (codes "validFrom") → to ≡ get_or words 3 (codes "validTo") → can_create window from to ≡ true
    → bytes ≡ file → first ≡ from → second ≡ to → Some (Create bytes 1 first second) ≡ create_words words
created words file window from to bytes first second there few window_is from_is to_is can bytes_are first_is second_is =
    let names : can_create (get_or words 1 (codes "1")) (get_or words 2 (codes "validFrom")) (get_or words 3 (codes "validTo")) ≡ true =
    ap (λ (w : List ℕ). can_create w (get_or words 2 (codes "validFrom")) (get_or words 3 (codes "validTo"))) (sym window_is)
    ∙ ap (λ (w : List ℕ). can_create window w (get_or words 3 (codes "validTo"))) (sym from_is)
    ∙ ap (λ (w : List ℕ). can_create window from w) (sym to_is) ∙ can in
    ap (λ (w : List ℕ). Some (Create w 1 first second)) bytes_are ∙ ap (λ (w : List ℕ). Some (Create file 1 w second)) (first_is ∙ from_is)
    ∙ ap (λ (w : List ℕ). Some (Create file 1 (get_or words 2 (codes "validFrom")) w)) (second_is ∙ to_is) ∙ sym (create_is words file there few names)

pub returns-then-not-can_create : goal.returns-then-not-can_create
returns-then-not-can_create c =
    let words = plain_of c.args.self.now in
    let window : c.unwrap_or-window.result.now ≡ get_or words 1 (codes "1") = ap (λ (b : Bor (List ℕ)). b.now) c.unwrap_or-window.ensures ∙ word_or words 1 c.get-2.result _ c.get-2.ensures.some c.get-2.ensures.none in
    let from : c.unwrap_or-from.result.now ≡ get_or words 2 (codes "validFrom") = ap (λ (b : Bor (List ℕ)). b.now) c.unwrap_or-from.ensures ∙ word_or words 2 c.get-3.result _ c.get-3.ensures.some c.get-3.ensures.none in
    let to : c.unwrap_or-to.result.now ≡ get_or words 3 (codes "validTo") = ap (λ (b : Bor (List ℕ)). b.now) c.unwrap_or-to.ensures ∙ word_or words 3 c.get-4.result _ c.get-4.ensures.some c.get-4.ensures.none in
    let same : c.can_create.result ≡ can_create (get_or words 1 (codes "1")) (get_or words 2 (codes "validFrom")) (get_or words 3 (codes "validTo")) =
    c.can_create.ensures ∙ ap (λ (w : List ℕ). can_create w c.unwrap_or-from.result.now c.unwrap_or-to.result.now) window
    ∙ ap (λ (w : List ℕ). can_create (get_or words 1 (codes "1")) w c.unwrap_or-to.result.now) from
    ∙ ap (λ (w : List ℕ). can_create (get_or words 1 (codes "1")) (get_or words 2 (codes "validFrom")) w) to in
    sym (create_not words (sym same ∙ c.if-not-can_create.true))

pub returns : goal.returns
returns c =
    let words = plain_of c.args.self.now in
    let window : c.unwrap_or-window.result.now ≡ get_or words 1 (codes "1") = ap (λ (b : Bor (List ℕ)). b.now) c.unwrap_or-window.ensures ∙ word_or words 1 c.get-2.result _ c.get-2.ensures.some c.get-2.ensures.none in
    let from : c.unwrap_or-from.result.now ≡ get_or words 2 (codes "validFrom") = ap (λ (b : Bor (List ℕ)). b.now) c.unwrap_or-from.ensures ∙ word_or words 2 c.get-3.result _ c.get-3.ensures.some c.get-3.ensures.none in
    let to : c.unwrap_or-to.result.now ≡ get_or words 3 (codes "validTo") = ap (λ (b : Bor (List ℕ)). b.now) c.unwrap_or-to.ensures ∙ word_or words 3 c.get-4.result _ c.get-4.ensures.some c.get-4.ensures.none in
    created words c.in-Some.file.now c.unwrap_or-window.result.now c.unwrap_or-from.result.now c.unwrap_or-to.result.now c.in_ok-bytes_of.field-0 c.in_ok-name.field-0 c.in_ok-name-2.field-0
    c.in-Some.ensures.some (let few = c.if-len-gt4.false in let count = c.len.ensures in omega (arith, few, count)) window from to (sym c.can_create.ensures ∙ c.if-not-can_create.false)
    c.in_ok-bytes_of.ensures c.in_ok-name.ensures c.in_ok-name-2.ensures
