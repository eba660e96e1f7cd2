use Rattle.std.proofs.Common.{◌≡◌, ◌∙◌, sym, ap, true, false, codes}
use Rattle.std.specs.Str.{bytes_eq}
use Rattle.std.specs.List.{list_all}
use Rattle.hex.specs.Hex.{is_hex_digit}
use Rattle.dym_commands.proofs.HexFacts.{hex_digits, hex_other, hex_short, hex_dash, odd_length, other_byte}
use Rattle.dym_commands.proofs.hex_bytes.HexBytes.of_word.Goals.{then-word-lt2-via-then-word-lt2, then-word-lt2-via-else-word-lt2+then-word-ne0}
use Rattle.dym_commands.proofs.hex_bytes.HexBytes.of_word.Goals as goal

pub returns-then-eq : goal.returns-then-eq
returns-then-eq c =
    let dash : bytes_eq c.args.word.now (codes "-") ≡ true = ap (bytes_eq c.args.word.now) (sym c.as_slice.ensures) ∙ sym c.eq.ensures ∙ c.if-eq.true in
    hex_dash c.args.word.now c.as_slice-then-eq.result.now dash c.as_slice-then-eq.ensures

pub returns-then-word-lt2 : goal.returns-then-word-lt2
returns-then-word-lt2 c =
    let dash : bytes_eq c.args.word.now (codes "-") ≡ false = ap (bytes_eq c.args.word.now) (sym c.as_slice.ensures) ∙ sym c.eq.ensures ∙ c.if-eq.false in
    elim c.then-word-lt2.branch [
      | then-word-lt2-via-then-word-lt2 w ↦ hex_short c.args.word.now dash w.if-word-lt2.true
      | then-word-lt2-via-else-word-lt2+then-word-ne0 w ↦ hex_other c.args.word.now dash (odd_length c.args.word.now w.if-word-ne0.true)
    ]

pub returns-then-not-are_digits : goal.returns-then-not-are_digits
returns-then-not-are_digits c =
    let dash : bytes_eq c.args.word.now (codes "-") ≡ false = ap (bytes_eq c.args.word.now) (sym c.as_slice.ensures) ∙ sym c.eq.ensures ∙ c.if-eq.false in
    hex_other c.args.word.now dash (other_byte c.args.word.now (sym c.are_digits.ensures ∙ c.if-not-are_digits.true))

pub returns : goal.returns
returns c =
    let dash : bytes_eq c.args.word.now (codes "-") ≡ false = ap (bytes_eq c.args.word.now) (sym c.as_slice.ensures) ∙ sym c.eq.ensures ∙ c.if-eq.false in
    let good : list_all is_hex_digit c.args.word.now ≡ true = sym c.are_digits.ensures ∙ c.if-not-are_digits.false in
    sym (hex_digits c.args.word.now dash c.if-word-lt2.false (record { even = c.if-word-ne0.false; good = good }))
