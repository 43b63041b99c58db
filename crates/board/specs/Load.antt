-- Loading an image: what it is checked against, and what its data lines put into memory.
use Rattle.std.specs.Prelude.{ℕ, List, [], ◌∷◌}
use Rattle.bus.specs.Rules.{Rules, stored_all}
use Rattle.image.specs.Checking.{Answer, accepted, refused, checked, image_data}
use Rattle.image.specs.Format.{Data}
use Rattle.image.specs.Memory.{memory_in}
use Rattle.board.specs.Machine.{Machine, machine}

module _ {M : Type 0} (r : Rules M) where
  -- the meaning with each data line's bytes put from its address on, line by line
  abbrev pub put_data : M → List Data → M
  put_data m [] = m
  put_data m (d ∷ ds) = put_data (stored_all r m d.address d.bytes) ds

  -- the count of data lines; or a refusal's number and place, where not every byte falls on memory or the form is wrong
  abbrev pub load_answer : Machine M → List ℕ → Answer
  load_answer s image = checked (memory_in r s.bus) image

  -- the machine after an answer: as it was where the image is refused
  abbrev pub if_accepted : Machine M → List ℕ → Answer → Machine M
  if_accepted s image (accepted n) = machine s.cpu (put_data s.bus (image_data image))
  if_accepted s image (refused n place) = s

  abbrev pub loaded_into : Machine M → List ℕ → Machine M
  loaded_into s image = if_accepted s image (load_answer s image)
