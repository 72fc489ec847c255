-- What a caller can tell from the numbers of the filter's answer and of the judge's.
use Prim.Native.Nat.{ℕ}
use mathlib.Core.List.{List}
use mathlib.Core.Path.{ap, ◌∙◌, subst}
use lib.IntN.{ℤ}
use Rattle.refusals.proofs.Injective.{eleven-le-number}
use Rattle.settings.specs.declared.Settings.{Settings}
use Rattle.requests.proofs.Outcomes.{keeps→unaltered, keeps→refused, no_plan→says, plan→planned}
use Rattle.requests.specs.Promise.{Unaltered, Planned}
use Rattle.requests.specs.Request.{Request}
use Rattle.icecoppice.specs.Numbers.{answer_numbers, verdict_numbers, outcome, KeepsInNumbers, Means, VerdictMeans}
use Rattle.icecoppice.specs.declared.AnswerNumbers.{AnswerNumbers}

pub means : {r : Request} {numbers : AnswerNumbers} {los his : List ℤ} {ms : List ℕ} →
    KeepsInNumbers r numbers los his ms →
    Means r numbers los his ms
means {r} {los = los} {his} {ms} a =
    let o = outcome a.answer los his ms in
    let unaltered = keeps→unaltered r o a.kept in
    record {
      refusal = λ f e.
          let so = (keeps→refused r o a.kept f).1 e in
          let is = a.is ∙ ap answer_numbers so in
          (is, rw is (eleven-le-number f), subst (λ a. Unaltered r (outcome a los his ms)) so (unaltered.1 f so));
      none = λ w n.
          let so = no_plan→says r o a.kept w n in
          (a.is ∙ ap answer_numbers so, subst (λ a. Unaltered r (outcome a los his ms)) so (unaltered.0 so));
      plan = λ w ps p.
          let i = plan→planned r o a.kept w ps p in (
            i.counts,
            a.is ∙ ap answer_numbers i.answer,
            subst (λ a. Planned r i.counts (outcome a los his ms)) i.answer i.promise,
          );
    }

pub verdict-means : (s : Settings) (loads : List ℤ) (marks : List ℕ) → VerdictMeans s loads marks
verdict-means s loads marks =
    record {
      refusal = λ f e. (ap (λ j. (verdict_numbers j).code) e, eleven-le-number f);
      yes = λ w c e. ap verdict_numbers e;
      no = λ w c e. ap (λ j. (verdict_numbers j).code) e;
    }
