use Rattle.std.proofs.Common.{◌≡◌, ◌∙◌, ◌++◌, sym, ap, true, take-append-drop}
use Rattle.std.specs.List.{list_all}
use Rattle.hex.specs.Hex.{is_hex_digit}
use Rattle.dym_commands.proofs.HexFacts.{hex_digits, no_dash}
use Rattle.dym_commands.proofs.hex_bytes.HexBytes.at_front.Goals as goal

pub returns : goal.returns
returns c =
    let word = c.split_at.result.0.now in
    let good : list_all is_hex_digit word ≡ true = ap (list_all is_hex_digit) c.split_at.ensures.front ∙ c.in_ok-count.ensures.digits in
    record {
      word = word;
      is = sym (take-append-drop c.in_ok-count.count c.args.text.now) ∙ (λ i. sym c.split_at.ensures.front i ++ sym c.split_at.ensures.back i);
      some = c.if-digits-lt2.false;
      digits = good;
      writes = hex_digits word (no_dash word c.if-digits-lt2.false) c.if-digits-lt2.false (record { even = c.if-digits-ne0.false; good = good });
    }
