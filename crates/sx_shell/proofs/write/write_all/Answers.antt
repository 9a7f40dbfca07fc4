use Rattle.std.proofs.Common.{◌≡◌, ◌∙◌, ◌++◌, List, ℕ, Option, None, Some, IfSome, ap, sym, subst, append_assoc}
use Rattle.sx_outside.specs.Transfer.{Gains}
use Rattle.sx_shell.proofs.write.write_all.Goals as goal

gains_more : (old mid new : Option (List ℕ)) (front piece : List ℕ)
    → IfSome old (λ before. mid ≡ Some (before ++ front)) → Gains mid piece new → IfSome old (λ before. new ≡ Some (before ++ (front ++ piece)))
gains_more None mid new front piece put gains = tt
gains_more (Some before) mid new front piece put gains =
    let more = subst (λ (written : Option (List ℕ)). Gains written piece new) put gains in
    more ∙ ap (λ (bytes : List ℕ). Some bytes) (append_assoc before front piece)

pub loop-rest-preserved : goal.loop-rest-preserved
loop-rest-preserved g c =
    let so_far = c.loop-rest.invariant.put in
    let more = c.in_ok-rest.ensures.put in
    record {
      put = (
        so_far.0 ++ more.0,
        so_far.1 ∙ ap (λ (bytes : List ℕ). so_far.0 ++ bytes) more.1 ∙ sym (append_assoc so_far.0 more.0 c.in_ok-rest.rest.now),
        gains_more (g.K.Sink.written c.args.sink.now) (g.K.Sink.written c.loop-rest.sink) (g.K.Sink.written c.write_some.new.sink) so_far.0 more.0 so_far.2 more.2,
      );
      counted = c.in_ok-rest.ensures.no_fault ∙ c.loop-rest.invariant.counted;
    }
