use Rattle.std.proofs.Common.{◌≤◌, map, ap, subst, ◌∙◌, arith}
use Rattle.std.proofs.lemmas.List.Elements.{All-same, All-map}
use Rattle.dym_wave.specs.Parts.{IsSumOfRun, quota_of}
use Rattle.dym_wave.proofs.QuotaRuns.{largest_least}
use Rattle.dym_wave.proofs.object_queue.ObjectQueue.of.Goals as goal

pub largest_wave-most-requires : goal.largest_wave-most-requires
largest_wave-most-requires c =
    All-same (λ q. q ≤ c.args.options.shape.segments) c.deref-2.result.now (map quota_of c.args.parts.items)
    (c.deref-2.ensures.value ∙ c.in_ok-quotas.ensures ∙ ap (map quota_of) c.deref.ensures.value)
    (All-map (λ q. q ≤ c.args.options.shape.segments) quota_of c.args.parts.items c.requires.fits)

pub returns-clause-least : goal.returns-clause-least
returns-clause-least c =
    largest_least c.args.parts.items c.largest_wave-most.result c.deref-2.result.now
    (c.deref-2.ensures.value ∙ c.in_ok-quotas.ensures ∙ ap (map quota_of) c.deref.ensures.value)
    c.requires.runnable (omega (arith, c.requires.some, c.args.parts.ok.0)) c.largest_wave-most.ensures.enough

pub returns-clause-needed : goal.returns-clause-needed
returns-clause-needed c =
    subst (λ quotas. IsSumOfRun quotas c.largest_wave-most.result) (c.deref-2.ensures.value ∙ c.in_ok-quotas.ensures ∙ ap (map quota_of) c.deref.ensures.value)
    c.largest_wave-most.ensures.needed
