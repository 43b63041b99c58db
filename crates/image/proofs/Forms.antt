-- A line that begins as one of the two forms, read part by part.
use Rattle.std.proofs.Common.{◌≡◌, ℕ, ◌-◌, true, cond, List, length, take, drop, None, Option, sym, ap, ◌∙◌}
use Rattle.std.proofs.lemmas.List.{take_rest}
use Rattle.hex_text.specs.Digits.{hex_number_in}
use Rattle.image.specs.Reading.{payload, starts_data, data_from, read_data, starts_end, read_end}

pub data_parts : (l : List ℕ) (a : Option ℕ) (bs : Option (List ℕ)) → starts_data l ≡ true → a ≡ hex_number_in 8 (take 8 (drop 2 l)) → bs ≡ payload (take (length l - 11) (drop 11 l)) → data_from a bs ≡ read_data l
data_parts l a bs starts is has =
    (λ i. data_from (is i) ((has ∙ ap payload (take_rest l 11)) i))
    ∙ ap (λ t. cond t (data_from (hex_number_in 8 (take 8 (drop 2 l))) (payload (drop 11 l))) None) (sym starts)

pub end_parts : (l : List ℕ) (n : Option ℕ) → starts_end l ≡ true → n ≡ hex_number_in 8 (take (length l - 2) (drop 2 l)) → n ≡ read_end l
end_parts l n starts is = is ∙ ap (hex_number_in 8) (take_rest l 2) ∙ ap (λ t. cond t (hex_number_in 8 (drop 2 l)) None) (sym starts)
