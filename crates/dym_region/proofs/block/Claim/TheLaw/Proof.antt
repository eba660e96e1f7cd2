-- Nothing can be read through a `&Claim`. Assumes `Logic`.
use denote.SharingLaws.{nothing_shr_laws}
use denote.Struct.Lending.{Lends-nothing}
use Rattle.dym_region.specs.contracts.block.Claim as Claim
use Rattle.dym_region.proofs.block.Claim.TheLaw.Statement.{statement}

pub shares : statement
shares =
    let it = Claim.the_written in
    record { shr_laws = λ _ _ _. nothing_shr_laws; shares = λ M 𝓤 𝓛 e κ ts b o. Lends-nothing 𝓛 _ it.lives κ ts }
