use Rattle.std.proofs.Common.{◌≡◌, ◌+◌, ◌*◌, length, get_or, ap, sym, ◌∙◌, arith}
use Rattle.dym_pack.specs.Layouts.{HasOffsets, word_of, end_of}
use Rattle.dym_pack.proofs.Laying.{place_at, places_count, bytes_end}
use Rattle.dym_pack.proofs.indexed_bytes.IndexedBytes.offset.Goals as goal

pub overflow_mul-k : goal.overflow_mul-k
overflow_mul-k c =
    let all = c.self.inside.all.items in
    let many = ap (λ (p : HasOffsets). length p.offsets) c.self.view_is in
    omega (arith, c.requires, many, places_count all, c.self.invariant.whole, c.self.inside.all.small)

pub overflow_add-end : goal.overflow_add-end
overflow_add-end c =
    let all = c.self.inside.all.items in
    let many = ap (λ (p : HasOffsets). length p.offsets) c.self.view_is in
    let end = ap (λ (p : HasOffsets). length p.bytes) c.self.view_is in
    omega (arith, c.requires, many, end, bytes_end all c.self.invariant, places_count all, c.self.invariant.whole, c.self.inside.all.small, c.end.ensures)

pub word_at-requires : goal.word_at-requires
word_at-requires c =
    let all = c.self.inside.all.items in
    let many = ap (λ (p : HasOffsets). length p.offsets) c.self.view_is in
    let end = ap (λ (p : HasOffsets). length p.bytes) c.self.view_is in
    omega (arith, c.requires, many, end, bytes_end all c.self.invariant, places_count all, c.self.invariant.whole, c.end.ensures, ap length c.deref.ensures.value)

pub returns : goal.returns
returns c =
    let all = c.self.inside.all.items in
    let k = c.args.k in
    let many = ap (λ (p : HasOffsets). length p.offsets) c.self.view_is in
    let ends : c.end.result ≡ end_of all = c.end.ensures ∙ sym (ap (λ (p : HasOffsets). length p.bytes) c.self.view_is) ∙ bytes_end all c.self.invariant in
    c.word_at.ensures
    ∙ ap (λ bytes. word_of bytes (c.end.result + 8 * k)) c.deref.ensures.value
    ∙ ap (λ e. word_of all (e + 8 * k)) ends
    ∙ sym (place_at all k (omega (arith, c.requires, many)))
    ∙ ap (λ (p : HasOffsets). get_or p.offsets k 0) c.self.view_is
