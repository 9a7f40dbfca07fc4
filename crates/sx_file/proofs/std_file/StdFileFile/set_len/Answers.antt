use Rattle.sx_volume.proofs.Images.{cuts_same}
use Rattle.sx_file.proofs.std_file.StdFileFile.set_len.Goals as goal

pub returns-clause-images : goal.returns-clause-images
returns-clause-images c = λ image left. (image, tt, cuts_same _ image)
