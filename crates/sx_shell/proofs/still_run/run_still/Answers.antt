use Rattle.std.proofs.Common.{◌≡◌, ◌∙◌, inl, inr, List, ℕ, Some, length, map, subst}
use Rattle.std.specs.String.{string_bytes}
use Rattle.sx_layout.specs.Born as born
use Rattle.sx_shell.proofs.StillBirths.{GivesBirth, wanted-births}
use Rattle.sx_shell.proofs.StillDue.{due-check, due-create, due-show}
use Rattle.sx_shell.proofs.StillEnds.{Gained, at_told}
use Rattle.sx_shell.specs.Still.{IsMade, IsShown, shown_line}
use Rattle.sx_shell.specs.declared.command.Wanted.TheVariants.{Create, Show, Check}
use Rattle.sx_shell.specs.Words.{wanted}
use Rattle.sx_shell.proofs.still_run.run_still.Goals as goal

pub make-requires : goal.make-requires
make-requires g c =
    let words = c.in-Ok-Some-Create.ensures in
    let same : wanted (map string_bytes c.args.words.now) ≡ Some (Create c.in-Ok-Some-Create.field-0-0-0 c.in-Ok-Some-Create.window c.in-Ok-Some-Create.from c.in-Ok-Some-Create.to) =
    cc (words, c.in-Ok-Some-Create.field-0-is, c.in-Ok-Some-Create.field-0-0-is) in
    subst GivesBirth same (wanted-births (map string_bytes c.args.words.now))

pub returns-in-Ok-Some-Create-clause-complete : goal.returns-in-Ok-Some-Create-clause-complete
returns-in-Ok-Some-Create-clause-complete g c = λ asked image birth commits is told stands tells whole end_whole taken.
    let words = c.in-Ok-Some-Create.ensures in
    let same : asked ≡ Create c.in-Ok-Some-Create.field-0-0-0 c.in-Ok-Some-Create.window c.in-Ok-Some-Create.from c.in-Ok-Some-Create.to = cc (words ∙ is) in
    due-create asked _ c.in-Ok-Some-Create.from c.in-Ok-Some-Create.to c.in-Ok-Some-Create.window image birth commits c.make.result same stands
    (at_told (λ (bytes : List ℕ). IsMade bytes c.make.result) (g.V.Volume.bytes c.args.volume.now) image told c.make.ensures.made) (λ failed. whole (c.make.ensures.cause failed))

pub returns-in-Ok-Some-Show-clause-shown : goal.returns-in-Ok-Some-Show-clause-shown
returns-in-Ok-Some-Show-clause-shown g c = λ file image r birth commits is told stands tells.
    let words = c.in-Ok-Some-Show.ensures in
    let same : c.in-Ok-Some-Show.revision ≡ r = cc (words ∙ is) in
    let shown = c.show.ensures.shown image birth commits told stands tells in
    (subst (λ (n : ℕ). IsShown (length commits) n c.show.result) same shown.0, shown.1)

pub returns-in-Ok-Some-Show-clause-text : goal.returns-in-Ok-Some-Show-clause-text
returns-in-Ok-Some-Show-clause-text g c = λ file image before r birth commits is told stands tells written.
    let words = c.in-Ok-Some-Show.ensures in
    let same : c.in-Ok-Some-Show.revision ≡ r = cc (words ∙ is) in
    subst (λ (n : ℕ). Gained (shown_line commits n) c.show.result before (g.K.Sink.written c.show.new.sink)) same (c.show.ensures.written image before birth commits told stands tells written)

pub returns-in-Ok-Some-Show-clause-complete : goal.returns-in-Ok-Some-Show-clause-complete
returns-in-Ok-Some-Show-clause-complete g c = λ asked image birth commits is told stands tells whole end_whole taken.
    let words = c.in-Ok-Some-Show.ensures in
    let same : asked ≡ Show c.in-Ok-Some-Show.field-0-0-0 c.in-Ok-Some-Show.revision = cc (words ∙ is) in
    due-show asked _ c.in-Ok-Some-Show.revision image birth commits c.show.result same stands (λ unborn. c.show.ensures.exactly image born.Unborn told unborn)
    (λ b with_birth. c.show.ensures.shown image b commits told with_birth tells) (λ failed. elim (c.show.ensures.volume_fault failed) [ inl v ↦ whole v | inr e ↦ end_whole e ])
    (λ failed. taken (c.show.ensures.write_fault failed))

pub returns-in-Ok-Some-Check-clause-checked : goal.returns-in-Ok-Some-Check-clause-checked
returns-in-Ok-Some-Check-clause-checked g c = λ file image birth commits is told stands tells. c.check.ensures.checked image birth commits told stands tells

pub returns-in-Ok-Some-Check-clause-counts : goal.returns-in-Ok-Some-Check-clause-counts
returns-in-Ok-Some-Check-clause-counts g c = λ file image before birth commits is told stands tells written. c.check.ensures.written image before birth commits told stands tells written

pub returns-in-Ok-Some-Check-clause-complete : goal.returns-in-Ok-Some-Check-clause-complete
returns-in-Ok-Some-Check-clause-complete g c = λ asked image birth commits is told stands tells whole end_whole taken.
    let words = c.in-Ok-Some-Check.ensures in
    let same : asked ≡ Check c.in-Ok-Some-Check.field-0-0-0 = cc (words ∙ is) in
    due-check asked _ image birth commits c.check.result same stands (λ unborn. c.check.ensures.exactly image born.Unborn told unborn tells)
    (λ b with_birth. c.check.ensures.checked image b commits told with_birth tells) (λ failed. elim (c.check.ensures.volume_fault failed) [ inl v ↦ whole v | inr e ↦ end_whole e ])
    (λ failed. taken (c.check.ensures.write_fault failed))
