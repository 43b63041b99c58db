-- The promise holds of the account, from any machine whose processor power could have given. Assumes nothing.
use Rattle.std.proofs.Common.{◌≡◌, ℕ, ◌+◌, ◌%◌, ◌^◌, List, length, sym, refl, ap, ◌∙◌, subst, arith}
use Rattle.bus.specs.Rules.{Rules, Laws}
use Rattle.cpu.specs.State.{reset}
use Rattle.cpu.specs.declared.config.Config.{Config}
use Rattle.board.specs.Machine.{Machine, machine}
use Rattle.board.proofs.Alignment.{reset_aligned}
use Rattle.script.specs.Account.{all_told, all_steps, finally}
use Rattle.script.specs.Book.{MemoryIsBook}
use Rattle.script.specs.Counter.{all_reported}
use Rattle.script.specs.Promise.{Promise}
use Rattle.script.specs.Request.{Request, Told}
use Rattle.script.specs.Returns.{ReturnsResume}
use Rattle.script.proofs.Counting.{counter_sums}
use Rattle.script.proofs.Links.{all_linked}
use Rattle.script.proofs.LoadBook.{memory_is_book}
use Rattle.script.proofs.Refusing.{touches_nothing}
use Rattle.script.proofs.Returning.{Linked, resumes_in}

module _ {M : Type 0} (r : Rules M) (laws : Laws r) (config : Config) (registers : List ℕ) (all : length registers ≡ 32) (m : M) (script : List Request) where
  abbrev first : Machine M
  first = machine (reset config registers) m

  returning : ReturnsResume (all_steps r first script)
  returning front middle back x y e is took back-word leaves =
      resumes_in r first front middle back x y e (record { size = all; aligned = reset_aligned config registers })
      (subst (Linked r first) is (all_linked r first script)) took back-word leaves

  pub promised : (answers : List Told) (last : Machine M) → answers ≡ all_told r first script → last ≡ finally r first script → Promise r first script answers last
  promised answers last a e = record {
    answered = a;
    ended = e;
    counter = ap (λ s. s.cpu.status.cc) e ∙ counter_sums r first script 0 refl ∙ ap (λ ts. (0 + all_reported ts) % 2 ^ 32) (sym a) ∙ ap (λ n. n % 2 ^ 32) (omega arith);
    returns = returning;
    memory = subst (λ s. MemoryIsBook r first script s.bus) (sym e) (memory_is_book r laws first script);
    refusals = touches_nothing r first script;
  }
