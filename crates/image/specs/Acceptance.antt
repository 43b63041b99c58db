-- An image is accepted just where it is the text of data lines that fall on memory.
use Rattle.std.specs.Prelude.{◌≡◌, ℕ, ◌^◌, ◌<◌, Bool, true, List, length}
use Rattle.std.specs.List.{AllByRecursion}
use Rattle.image.specs.Checking.{Answer, accepted, on_memory, image_data}
use Rattle.image.specs.Format.{Data, Sound, image_text}

-- data lines that an image may have: sound ones whose bytes fall on memory, no more than eight digits count
pub record Loadable (memory : ℕ → Bool) (ds : List Data) : Type 0 where
  pub sound : AllByRecursion Sound ds
  pub placed : AllByRecursion (λ d. on_memory memory d.address d.bytes ≡ true) ds
  pub few : length ds < 2 ^ 32

-- a is the answer to an image
pub record Accepts (memory : ℕ → Bool) (image : List ℕ) (a : Answer) : Type 0 where
  pub read : (n : ℕ) → a ≡ accepted n → Loadable memory (image_data image) × (image ≡ image_text (image_data image)) × (n ≡ length (image_data image))
  pub written : (ds : List Data) → Loadable memory ds → image ≡ image_text ds → (a ≡ accepted (length ds)) × (image_data image ≡ ds)
