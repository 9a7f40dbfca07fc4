use Rattle.std.proofs.Common.{◌≡◌, true, List, ℕ, zero, suc, [], ◌∷◌, refl, subst, sym, arith}
use Rattle.std.specs.List.{list_all}
use Rattle.std.specs.Prelude.{nat_lt}
use Rattle.std.specs.Str.{IsAscii, IsUtf8}
use Rattle.std.proofs.lemmas.Bool.{and_parts, ltb-true}
use Rattle.std.proofs.lemmas.Str.{IsUtf8-from_ascii}
use Rattle.sx_run.specs.Spelling.{axis_word}
use Rattle.sx_script.proofs.questions.axis_of.Goals as goal
use Rattle.sx_tree.specs.declared.query.Axis.{Axis}
use Rattle.sx_tree.specs.declared.query.Axis.TheVariants as axes

-- text by a test of its bytes
plain : (word : List ℕ) → list_all (λ byte. nat_lt byte 128) word ≡ true → IsAscii word
plain [] small i = omega arith
plain (byte ∷ word) small zero = ltb-true byte 128 (and_parts (nat_lt byte 128) (list_all (λ b. nat_lt b 128) word) small).0
plain (byte ∷ word) small (suc i) = plain word (and_parts (nat_lt byte 128) (list_all (λ b. nat_lt b 128) word) small).1 i

axis_text : (a : Axis) → list_all (λ byte. nat_lt byte 128) (axis_word a) ≡ true
axis_text axes.Child = refl
axis_text axes.Descendant = refl
axis_text axes.Ancestor = refl
axis_text axes.Following = refl
axis_text axes.Preceding = refl
axis_text axes.FollowingSibling = refl
axis_text axes.PrecedingSibling = refl

pub returns-in_default-clause-none : goal.returns-in_default-clause-none
returns-in_default-clause-none c = λ a is.
    c.in_default.ensures.cases.0 (subst (λ (w : List ℕ). IsUtf8 w) (sym is) (IsUtf8-from_ascii (axis_word a) (plain (axis_word a) (axis_text a))))
