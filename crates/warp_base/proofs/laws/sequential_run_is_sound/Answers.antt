use Rattle.warp_base.specs.Sequential.{sequential}
use Rattle.warp_base.proofs.Sequential.{sequential_sound, over_consistent}
use Rattle.warp_base.proofs.laws.sequential_run_is_sound.Goals as goal

pub returns : goal.returns
returns g c = λ b n end steps ahead starts.
    let words = g.P.Payload.words in
    let tells = g.met.P.Payload.tells_apart in
    let sound = sequential_sound words tells b ahead n end steps starts in
    record { follows = sound.follows; consistent = over_consistent words tells b end (sequential words b n end steps) sound }
