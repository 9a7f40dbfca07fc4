use Rattle.std.proofs.Common.{◌≡◌, ◌+◌, ◌++◌, ◌∷◌, [], ◌≤◌, ℕ, length, take, rules, sym, ap, ◌∙◌}
use Rattle.sx_paths.specs.Entries.{left_at}
use Rattle.sx_paths.specs.Words.{number_by}
use Rattle.sx_paths.proofs.EntryLemmas.{cut_once, front-push}
use Rattle.sx_paths.proofs.entries.cut.Goals as goal

pub loop-entries-preserved-in-Some : goal.loop-entries-preserved-in-Some
loop-entries-preserved-in-Some c =
    let all = c.loop-entries.entries.items in
    let left = c.pop.new.self.items in
    let is : all ≡ left ++ c.in-Some.entry ∷ [] = search rules in
    let within : c.args.count ≤ length left = search rules in
    let len : c.len-in-Some.result ≡ length left = search rules in
    record {
      within = within;
      few = search rules;
      front = sym (ap (take c.args.count) is ∙ front-push c.args.count left c.in-Some.entry within) ∙ c.loop-entries.invariant.front;
      indexed = cut_once all left c.in-Some.entry c.loop-entries.index c.leave.new.index is c.loop-entries.invariant.indexed c.leave.ensures.index
          (λ p s. c.leave.ensures.numbers p s ∙ ap (λ (n : ℕ). left_at c.in-Some.entry.path (n + 1) (number_by c.loop-entries.index) p s) len);
    }

pub loop-entries-preserved-in-Some-2 : goal.loop-entries-preserved-in-Some-2
loop-entries-preserved-in-Some-2 c =
    let all = c.loop-entries.entries.items in
    let left = c.pop.new.self.items in
    let is : all ≡ left ++ c.in-Some.entry ∷ [] = search rules in
    let within : c.args.count ≤ length left = search rules in
    let len : c.len-in-Some.result ≡ length left = search rules in
    record {
      within = within;
      few = search rules;
      front = sym (ap (take c.args.count) is ∙ front-push c.args.count left c.in-Some.entry within) ∙ c.loop-entries.invariant.front;
      indexed = cut_once all left c.in-Some.entry c.loop-entries.index c.leave.new.index is c.loop-entries.invariant.indexed c.leave.ensures.index
          (λ p s. c.leave.ensures.numbers p s ∙ ap (λ (n : ℕ). left_at c.in-Some.entry.path (n + 1) (number_by c.loop-entries.index) p s) len);
    }
