use Rattle.std.proofs.Common.{◌≡◌, Ok, ap, sym, ◌∙◌, arith}
use Rattle.std.proofs.lemmas.Grind.{common_steps}
use Rattle.dp_telegram.specs.declared.frame.Frame.TheVariants as frames
use Rattle.dp_telegram.specs.FrameText.{text_of, reading_of}
use Rattle.dp_telegram.proofs.Texts.{text_reads}
use Rattle.dp_telegram.proofs.encoding.encode.Goals as goal

pub returns-in-Telegram-clause-reads_back : goal.returns-in-Telegram-clause-reads_back
returns-in-Telegram-clause-reads_back c =
    let text : c.push_checked.new.text.items ≡ text_of (frames.Telegram c.in-Telegram.telegram) = grind (arith, common_steps) in
    ap reading_of text ∙ text_reads (frames.Telegram c.in-Telegram.telegram) (omega arith) ∙ ap Ok (sym c.in-Telegram.is)
