use Rattle.node_transfer.proofs.OfMail.MailPlaces.{mail_goes_by_links}
use Rattle.node_transfer.proofs.laws.mail_goes_by_links.Goals as goal

pub returns : goal.returns
returns c = mail_goes_by_links
