-- What specs/Demand3.antt states, proved.
use Rattle.requests.proofs.Loosens.{loosening, loosening_answers}
use Rattle.requests.proofs.Outcomes.{least_windows, least_covered}
use Rattle.requests.proofs.Formed.{formed-iff}
use Rattle.requests.proofs.Settles.{some-least, counting, settling, settling_answers}
use Rattle.requests.specs.Demand3.{Demand3}

pub demand3 : Demand3
demand3 =
    record {
      loosening = loosening;
      loosening_answers = loosening_answers;
      least_windows = least_windows;
      least_covered = least_covered;
      least_unlimited = λ r w. some-least r (formed-iff.0 w);
      settling = λ r q w i slot. settling r (formed-iff.0 w) i slot;
      counting = λ r w. counting r (formed-iff.0 w);
      settling_answers = λ r q w i slot. settling_answers r (formed-iff.0 w) i slot;
    }
