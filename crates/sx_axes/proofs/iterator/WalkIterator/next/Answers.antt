use Rattle.std.proofs.Common.{◌≡◌, ◌<◌, ℕ, Option, None, Some, arith, refl, rules, sym, ◌∙◌}
use Rattle.sx_axes.specs.Course.{reads_left, turns_of}
use Rattle.sx_axes.proofs.iterator.WalkIterator.next.Goals as goal

turns_none : (next up : Option ℕ) (reads : ℕ) → next ≡ None → up ≡ None → turns_of next up reads ≡ 0
turns_none None None reads last top = refl
turns_none None (Some p) reads last top = absurd (cc)
turns_none (Some k) up reads last top = absurd (cc)

turns_some : (next up : Option ℕ) (reads : ℕ) → (next ≡ None → up ≡ None → ⊥) → 0 < turns_of next up reads
turns_some None None reads on = absurd (on refl refl)
turns_some None (Some p) reads on = omega arith
turns_some (Some k) up reads on = omega arith

pub returns-in-Err-clause-goes : goal.returns-in-Err-clause-goes
returns-in-Err-clause-goes g c =
    let old = c.args.self.now.course in
    let on : old.next ≡ None → old.up ≡ None → ⊥ = λ last top. absurd (cc (sym c.in-Err.is ∙ c.follow.ensures.ended (last, top))) in
    let over_course = c.ended-self-in-Err.result in
    let ready = c.ended-self-in-Err.ensures.ready _ in
    let over = c.ended-self-in-Err.ensures.ended in
    record {
      on = λ finite. (ready, search rules, omega (arith, turns_none over_course.next over_course.up (reads_left over_course) over.0 over.1, turns_some old.next old.up (reads_left old) on));
      keeps = ready;
      rests = λ finite. search rules;
    }
