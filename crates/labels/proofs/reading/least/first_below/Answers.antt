use Rattle.std.proofs.Common.{◌≡◌, ◌+◌, ◌-◌, ◌∙◌, Some, ap, arith, sym}
use Rattle.labels.specs.Reading.OfZone.{rest_to}
use Rattle.labels.specs.States.RouterWays.{state_of}
use Rattle.labels.proofs.OfReading.Leasts.{first_is, first_there}
use Rattle.labels.proofs.reading.least.first_below.Goals.{else-rest-lt-FAR-via-then-rest-lt-FAR+else-alone-rest, else-rest-lt-FAR-via-else-rest-lt-FAR}
use Rattle.labels.proofs.reading.least.first_below.Goals as goal

pub returns-then-alone-most-clause-below : goal.returns-then-alone-most-clause-below
returns-then-alone-most-clause-below c = λ x h.
    let is = first_is c.args.labels.now c.args.link c.args.step c.enter-entry.result c.steps-time.result c.requires.fit c.requires.link c.enter-entry.ensures.is c.steps-time.ensures.is x h in
    omega (arith, is.0, c.if-alone-most.true)

pub returns-then-alone-most-clause-low : goal.returns-then-alone-most-clause-low
returns-then-alone-most-clause-low c = λ x h.
    let is = first_is c.args.labels.now c.args.link c.args.step c.enter-entry.result c.steps-time.result c.requires.fit c.requires.link c.enter-entry.ensures.is c.steps-time.ensures.is x h in
    omega (arith, is.0, is.1, c.enter-entry.ensures.soon, c.steps-time.type_inv, c.requires.step)

pub returns-then-alone-rest-clause-low : goal.returns-then-alone-rest-clause-low
returns-then-alone-rest-clause-low c = λ x h.
    let is = first_is c.args.labels.now c.args.link c.args.step c.enter-entry.result c.steps-time.result c.requires.fit c.requires.link c.enter-entry.ensures.is c.steps-time.ensures.is x h in
    omega (arith, is.0, is.1, c.enter-entry.ensures.soon, c.steps-time.type_inv, c.requires.step)

pub returns-else-rest-lt-FAR-clause-low : goal.returns-else-rest-lt-FAR-clause-low
returns-else-rest-lt-FAR-clause-low c = λ x h.
    let is = first_is c.args.labels.now c.args.link c.args.step c.enter-entry.result c.steps-time.result c.requires.fit c.requires.link c.enter-entry.ensures.is c.steps-time.ensures.is x h in
    omega (arith, is.0, is.1, c.enter-entry.ensures.soon, c.steps-time.type_inv, c.requires.step)

pub returns-then-alone-rest-clause-below : goal.returns-then-alone-rest-clause-below
returns-then-alone-rest-clause-below c =
    let rest : c.rest_at-rest.result ≡ rest_to c.args.labels.now (state_of c.args.labels.now.router.now c.args.link) (c.enter-entry.result + c.steps-time.result) = c.rest_at-rest.ensures.is ∙ ap (λ s. rest_to c.args.labels.now s (c.enter-entry.result + c.steps-time.result)) c.state-state.ensures.is in (
      first_there c.args.labels.now c.args.link c.args.step c.enter-entry.result c.steps-time.result c.requires.fit c.requires.link c.enter-entry.ensures.is c.steps-time.ensures.is (omega (arith, rest, c.if-rest-lt-FAR.true))
          ∙ ap (λ n. Some (c.enter-entry.result - c.args.step + c.steps-time.result + n)) (sym rest),
      c.if-alone-rest.true,
    )

pub returns-else-rest-lt-FAR-clause-below : goal.returns-else-rest-lt-FAR-clause-below
returns-else-rest-lt-FAR-clause-below c = λ x h.
    let rest : c.rest_at-rest.result ≡ rest_to c.args.labels.now (state_of c.args.labels.now.router.now c.args.link) (c.enter-entry.result + c.steps-time.result) = c.rest_at-rest.ensures.is ∙ ap (λ s. rest_to c.args.labels.now s (c.enter-entry.result + c.steps-time.result)) c.state-state.ensures.is in
    let is = first_is c.args.labels.now c.args.link c.args.step c.enter-entry.result c.steps-time.result c.requires.fit c.requires.link c.enter-entry.ensures.is c.steps-time.ensures.is x h in
    elim c.else-rest-lt-FAR.branch [
      | else-rest-lt-FAR-via-then-rest-lt-FAR+else-alone-rest w ↦ omega (arith, is.0, rest, w.if-alone-rest.false)
      | else-rest-lt-FAR-via-else-rest-lt-FAR w ↦ absurd (omega (arith, is.1, rest, w.if-rest-lt-FAR.false))
    ]
