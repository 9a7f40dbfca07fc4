use Rattle.std.proofs.Common.{◌∙◌}
use Rattle.sx_file.proofs.Ends.{follows_put, put_length, told_put}
use Rattle.sx_file.proofs.file_volume.FileVolumeVolume.put_byte.Goals as goal

pub invariant_of-self : goal.invariant_of-self
invariant_of-self g c =
    let place = rw (← c.self.view_is) at c.requires.place in
    put_length c.write_at.result _ _ _ _ _ place c.write_at.ensures.written c.write_at.ensures.in_part ∙ c.self.invariant

pub returns-clause-written : goal.returns-clause-written
returns-clause-written g c =
    let place = rw (← c.self.view_is) at c.requires.place in
    rw (← c.self.view_is) (told_put c.write_at.result _ _ c.self.inside.size c.args.at c.args.byte place c.write_at.ensures.written)

pub returns-clause-same_size : goal.returns-clause-same_size
returns-clause-same_size g c =
    let place = rw (← c.self.view_is) at c.requires.place in
    rw (← c.self.view_is) (put_length c.write_at.result _ _ _ _ _ place c.write_at.ensures.written c.write_at.ensures.in_part)

pub returns-clause-images : goal.returns-clause-images
returns-clause-images g c =
    let place = rw (← c.self.view_is) at c.requires.place in
    rw (← c.self.view_is) (follows_put (g.F.File.bytes c.self.inside.file) (g.F.File.is_image c.self.inside.file) (g.F.File.was_image c.write_at.new.self (g.F.File.moment c.self.inside.file)) (g.met.F.File.nothing_known c.self.inside.file) c.self.inside.size c.args.at place c.write_at.ensures.images)
