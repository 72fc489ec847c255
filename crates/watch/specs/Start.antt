-- What a start gives (document 01, "Watch" and "Where each refusal is checked").
use Rattle.std.specs.Prelude.{ℕ, ℤ}
use Rattle.refusals.specs.Answer.{Answer, answer}
use Rattle.watch.specs.States.{start_refusal, initial}
use Rattle.watch.specs.declared.Watch.{Watch}

-- a start gives a state, or a refusal and no state
unfoldable pub starting : (k : ℤ) (len h : ℕ) → Answer Watch
starting k len h = answer (start_refusal len h) (initial k len h)
